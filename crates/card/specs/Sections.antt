-- The numbers of a section, written one after the other into a lent slice, whose tail is kept. Definitions only.
use Rattle.std.specs.Prelude.{List, ℕ, ◌+◌, ◌*◌, ◌/◌, ◌%◌, ℤ, set, Float}
use Rattle.loops.specs.Loops.{for_up}
use Rattle.card.specs.Number.{u16_at, f32_at, i16_at}

-- out[i] = f(i)
unfoldable pub put_at : {A : Type 0} → (ℕ → A) → ℕ → List A → List A
put_at f i out = set out i (f i)

-- for i in 0..count { out[i] = f(i) }
abbrev pub filled : {A : Type 0} → (ℕ → A) → ℕ → List A → List A
filled f count out = for_up 0 count (put_at f) out

-- the numbers of a kind at a place and every `stride` bytes on
abbrev pub number_at : {A : Type 0} → (List ℕ → ℕ → A) → List ℕ → ℕ → ℕ → ℕ → A
number_at stored s at stride i = stored s (at + stride * i)

abbrev pub numbers : {A : Type 0} → (List ℕ → ℕ → A) → List ℕ → ℕ → ℕ → ℕ → List A → List A
numbers stored s at stride = filled (number_at stored s at stride)

-- f32 one after the other: the palette, and the references, x, y, observed and nominal colour of each
abbrev pub float_at : List ℕ → ℕ → ℕ → Float
float_at s at i = f32_at s (at + 4 * i)

-- the i16 of each 16-byte record at this place in it
abbrev pub position_of : List ℕ → ℕ → ℕ → ℤ
position_of s at i = i16_at s (at + 16 * i)

-- the u16 of each 16-byte record at this place in it
abbrev pub coordinate_at : List ℕ → ℕ → ℕ → ℕ
coordinate_at s at i = u16_at s (at + 16 * i)

-- the three f32 of each 16-byte record, behind its two coordinates
abbrev pub component_at : List ℕ → ℕ → ℕ → Float
component_at s at i = f32_at s (at + 16 * (i / 3) + 4 + 4 * (i % 3))

abbrev pub components : List ℕ → ℕ → ℕ → List Float → List Float
components s at = filled (component_at s at)
