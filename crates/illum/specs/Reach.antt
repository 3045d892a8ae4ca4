-- The reach of a model: the positions at which it corrects no moderate colour to one that breaks sentence 12. Definitions only.
use Rattle.std.specs.Prelude.{ℕ, Bool, false, cond, not, ◌&&◌, ◌||◌, T, List, pos, slice_index_or, Float}
use Rattle.std.specs.Float.{nan, fin, binary32, binary64}
use Rattle.std.specs.Float.Ieee.{add, neg, le, fits}
use Rattle.loops.specs.Loops.{any_up}
use Rattle.color.specs.declared.Linear.{Linear}
use Rattle.illum.specs.declared.Span.{Span}
use Rattle.illum.specs.declared.IlluminationModel.{IlluminationModel}
use Rattle.illum.specs.Surface.{zero64, one64, terms_used, normalised}

-- ---- numbers

abbrev pub three : Float
three = fin false 3 (pos 0)

-- the most that a number of the model is
abbrev pub most_number : Float
most_number = fin false 1 (pos 3)

-- the most that a component of a colour is
abbrev pub most_colour : Float
most_colour = fin false 1 (pos 8)

abbrev pub most_side : Float
most_side = fin false 1 (pos 10)

-- from -b to b
abbrev pub is_from : Float → Float → Bool
is_from b v = le (neg b) v && le v b

-- ---- the model

abbrev pub large_at : List Float → ℕ → Bool
large_at c k = not (is_from most_number (slice_index_or c k nan))

-- one of the first n numbers is not from -8 to 8
abbrev pub large_up_to : ℕ → List Float → Bool
large_up_to n c = any_up 0 n (large_at c)

unfoldable pub large_affine : IlluminationModel → Bool
large_affine m = large_up_to 4 m.affine_r || large_up_to 4 m.affine_g || large_up_to 4 m.affine_b

unfoldable pub large_gains : IlluminationModel → Bool
large_gains m =
    large_up_to (terms_used m.terms) m.gain_r || large_up_to (terms_used m.terms) m.gain_g || large_up_to (terms_used m.terms) m.gain_b

unfoldable pub large_flares : IlluminationModel → Bool
large_flares m =
    large_up_to (terms_used m.terms) m.flare_r || large_up_to (terms_used m.terms) m.flare_g
    || large_up_to (terms_used m.terms) m.flare_b

-- the positions from -side to 2 × side are from -3 to 3 on the scale of the surfaces
unfoldable pub in_scale : Float → Bool
in_scale side = le (neg three) (normalised side (neg side)) && le (normalised side (add binary32 side side)) three

abbrev pub span : Float → Float → Span
span a b = record { lo = a; hi = b }

-- from -side to 2 × side, or no position
unfoldable pub reach_of : IlluminationModel → Span
reach_of m =
    cond (le one64 m.side && le m.side most_side && in_scale m.side && not (large_affine m || large_gains m || large_flares m)) (span (neg m.side) (add binary32 m.side m.side))
    (span one64 zero64)

-- ---- a position and a colour

abbrev pub in_span : Span → Float → Bool
in_span s x = le s.lo x && le x s.hi

-- the position is in the span, and each component of the colour from -256 to 256
unfoldable pub is_within : Span → Float → Float → Linear → Bool
is_within s x y c = in_span s x && in_span s y && is_from most_colour c.r && is_from most_colour c.g && is_from most_colour c.b

-- ---- each number is a value of its format, as every number of a program is

pub record Placed (x y : Float) (c : Linear) : Type 0 where
  pub at_x : T (fits binary32 x)
  pub at_y : T (fits binary32 y)
  pub red : T (fits binary32 c.r)
  pub green : T (fits binary32 c.g)
  pub blue : T (fits binary32 c.b)

abbrev pub Values : List Float → Type 0
Values l = (k : ℕ) → T (fits binary64 (slice_index_or l k nan))

pub record Typed (m : IlluminationModel) : Type 0 where
  pub affine-r : Values m.affine_r
  pub affine-g : Values m.affine_g
  pub affine-b : Values m.affine_b
  pub gain-r : Values m.gain_r
  pub gain-g : Values m.gain_g
  pub gain-b : Values m.gain_b
  pub flare-r : Values m.flare_r
  pub flare-g : Values m.flare_g
  pub flare-b : Values m.flare_b
  pub side : T (fits binary32 m.side)
