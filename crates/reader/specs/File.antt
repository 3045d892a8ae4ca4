-- What an accepted card file holds (document 01, "Card file and listing"): its settings, and each section as the list of its numbers. Definitions only.
use Rattle.std.specs.Prelude.{◌≡◌, List, [], ◌∷◌, ℕ, zero, suc, ◌+◌, ◌*◌, ◌≤◌, ℤ, Float}
use Rattle.card.specs.declared.Card.{Card}
use Rattle.card.specs.Number.{u16_at, i16_at}
use Rattle.card.specs.Sections.{number_at, float_at, position_of, coordinate_at, component_at}
use Rattle.readout.specs.Sheet.{Sheet, sheet}

-- f(i), f(i + 1), .., k of them
unfoldable pub list_from : {A : Type 0} → (ℕ → A) → ℕ → ℕ → List A
list_from f zero i = []
list_from f (suc k) i = f i ∷ list_from f k (suc i)

-- the list of f(i) for every i below n
unfoldable pub list_of : {A : Type 0} → (ℕ → A) → ℕ → List A
unfolding list_from
list_of f n = list_from f n 0

-- ---- the numbers of a section of the file s that starts at this place: n f32 one after the other; n i16, and n u16, one in each record of 16 bytes; the colours
-- of n such records, "three f32" each

abbrev pub floats_of : List ℕ → ℕ → ℕ → List Float
floats_of s at n = list_of (float_at s at) n

abbrev pub positions_of : List ℕ → ℕ → ℕ → List ℤ
positions_of s at n = list_of (position_of s at) n

abbrev pub coordinates_of : List ℕ → ℕ → ℕ → List ℕ
coordinates_of s at n = list_of (coordinate_at s at) n

abbrev pub colours_of : List ℕ → ℕ → ℕ → List Float
colours_of s at n = list_of (component_at s at) (3 * n)

-- the lists of the n modules, or of the n cells, of a section, by how a coordinate is stored
pub record Placed {A : Type 0} (stored : List ℕ → ℕ → A) (s : List ℕ) (at n : ℕ) (xs ys : List A) (raw : List Float) : Type 0 where
  pub xs_are : xs ≡ list_of (number_at stored s at 16) n
  pub ys_are : ys ≡ list_of (number_at stored s (at + 2) 16) n
  pub raw_are : raw ≡ colours_of s at n

abbrev pub Modules : List ℕ → ℕ → ℕ → List ℤ → List ℤ → List Float → Type 0
Modules = Placed i16_at

abbrev pub Cells : List ℕ → ℕ → ℕ → List ℕ → List ℕ → List Float → Type 0
Cells = Placed u16_at

-- ---- the file

-- "Palette, f32: two levels, a and b per hue, Lab per colour", two colours a hue. "Modules: x, y as i16, three f32. Cells: cx, cy as u16, three f32."
unfoldable pub sheet_of : List ℕ → Card → Sheet
sheet_of s c =
    let modules = c.modules in
    let cells = c.cells in
    sheet c.settings (floats_of s c.palette (2 + 8 * c.settings.hues))
    (positions_of s modules.at modules.count) (positions_of s (modules.at + 2) modules.count) (colours_of s modules.at modules.count)
    (coordinates_of s cells.at cells.count) (coordinates_of s (cells.at + 2) cells.count) (colours_of s cells.at cells.count)

-- "References: eight f32 (x, y, observed, nominal)."
unfoldable pub references_of : List ℕ → Card → List Float
references_of s c = floats_of s c.references.at (8 * c.references.count)

-- ---- how much a file of at most 16,384 bytes holds

-- of the whole file: 56 bytes before the hues, 32 bytes a hue and a reference, 16 a module and a cell
pub record Fits (c : Card) : Type 0 where
  pub side : c.settings.side ≤ 64
  pub palette : c.palette ≤ 16384
  pub references : c.references.at ≤ 16384
  pub modules : c.modules.at ≤ 16384
  pub cells : c.cells.at ≤ 16384
  pub whole : 32 * c.settings.hues + 32 * c.references.count + 16 * c.modules.count + 16 * c.cells.count ≤ 16328
