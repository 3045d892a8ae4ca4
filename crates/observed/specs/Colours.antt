-- The colours of a card's modules and cells: where each stands, how it was observed, and the colour corrected. Definitions only.
use Rattle.std.specs.Prelude.{Bool, List, ℕ, ◌+◌, ◌<◌, T, ℤ, pos, get_or, Float}
use Rattle.std.specs.Float.{binary32}
use Rattle.std.specs.Float.Ieee.{of_int, in_float}
use Rattle.loops.specs.Loops.{for_up, any_up, raise, count_up}
use Rattle.color.specs.declared.Linear.{Linear}
use Rattle.color.specs.Color.{whole, fraction}
use Rattle.color.specs.Palette.{linear_at, wild_linear}
use Rattle.illum.specs.declared.IlluminationModel.{IlluminationModel}
use Rattle.illum.specs.Correct.{corrected, held_at}
use Rattle.stats.specs.Arithmetic.{◌⊕◌, ◌⊗◌, ◌⊘◌}
use Rattle.illum.specs.declared.Spot.{Spot}
use Rattle.observed.specs.Entries.{put_three}

-- ---- where a colour stands, and the colour corrected

-- the coordinates of the first m modules are f32 values
pub record Exact (xs : List ℤ) (m : ℕ) : Type 0 where
  pub at : (i : ℕ) → i < m → T (in_float binary32 (get_or xs i (pos 0)))

-- the centre of a module, `x as f32 + 0.5`
unfoldable pub centre : ℤ → Float
centre v = of_int binary32 v ⊕ fraction 1 2

-- the centre of a cell of size by size modules, `cx as f32 * size as f32 + size as f32 / 2.0`
unfoldable pub cell_centre : ℕ → ℕ → Float
cell_centre size cx = of_int binary32 (pos cx) ⊗ of_int binary32 (pos size) ⊕ of_int binary32 (pos size) ⊘ whole 2

-- the corrected colour of module i
unfoldable pub module_colour : IlluminationModel → List ℤ → List ℤ → List Float → ℕ → Linear
module_colour model xs ys raw i =
    (corrected model (centre (get_or xs i (pos 0))) (centre (get_or ys i (pos 0))) (linear_at raw i)).colour

-- of cell i
unfoldable pub cell_colour : IlluminationModel → ℕ → List ℕ → List ℕ → List Float → ℕ → Linear
cell_colour model size cxs cys raw i =
    (corrected model (cell_centre size (get_or cxs i 0)) (cell_centre size (get_or cys i 0)) (linear_at raw i)).colour

-- module i and cell i as they were observed: where, and which colour
unfoldable pub module_spot : List ℤ → List ℤ → List Float → ℕ → Spot
module_spot xs ys raw i = record { x = centre (get_or xs i (pos 0)); y = centre (get_or ys i (pos 0)); colour = linear_at raw i }

unfoldable pub cell_spot : ℕ → List ℕ → List ℕ → List Float → ℕ → Spot
cell_spot size cxs cys raw i = record { x = cell_centre size (get_or cxs i 0); y = cell_centre size (get_or cys i 0); colour = linear_at raw i }

-- the corrected colour of a spot, and of spot i of those that `spots` gives
unfoldable pub corrected_spot : IlluminationModel → Spot → Linear
corrected_spot model s = (corrected model s.x s.y s.colour).colour

unfoldable pub spot_colour : IlluminationModel → (ℕ → Spot) → ℕ → Linear
spot_colour model spots i = corrected_spot model (spots i)

-- ---- the colours that have a mark: a channel's gain, where they stand, was held

unfoldable pub held_module : IlluminationModel → List ℤ → List ℤ → ℕ → Bool
held_module model xs ys i = held_at model (centre (get_or xs i (pos 0))) (centre (get_or ys i (pos 0)))

unfoldable pub held_cell : IlluminationModel → ℕ → List ℕ → List ℕ → ℕ → Bool
held_cell model size cxs cys i = held_at model (cell_centre size (get_or cxs i 0)) (cell_centre size (get_or cys i 0))

unfoldable pub held_spot : IlluminationModel → (ℕ → Spot) → ℕ → Bool
held_spot model spots i = held_at model (spots i).x (spots i).y

-- `held` of the spots before `from`, and those of the k spots from there on
abbrev pub held_from : IlluminationModel → (ℕ → Spot) → ℕ → ℕ → ℕ → ℕ
held_from model spots from k held = for_up from (from + k) (raise (held_spot model spots)) held

-- how many of the first m modules have one, and of the first c cells
abbrev pub held_module_count : IlluminationModel → List ℤ → List ℤ → ℕ → ℕ
held_module_count model xs ys m = count_up 0 m (held_module model xs ys)

abbrev pub held_cells : IlluminationModel → ℕ → List ℕ → List ℕ → ℕ → ℕ
held_cells model size cxs cys c = count_up 0 c (held_cell model size cxs cys)

-- `held` of the cells before `from`, and those of the k cells from there on
abbrev pub held_onwards : IlluminationModel → ℕ → List ℕ → List ℕ → ℕ → ℕ → ℕ → ℕ
held_onwards model size cxs cys from k held = for_up from (from + k) (raise (held_cell model size cxs cys)) held

-- ---- colours in a list

-- a colour at the places of entry i
abbrev pub put_colour : List Float → ℕ → Linear → List Float
put_colour l i c = put_three l i c.r c.g c.b

-- what `colour` gives, of the first m
unfoldable pub colour_at : (ℕ → Linear) → ℕ → List Float → List Float
colour_at colour i l = put_colour l i (colour i)

abbrev pub write_colours : (ℕ → Linear) → ℕ → List Float → List Float
write_colours colour m l = for_up 0 m (colour_at colour) l

-- ---- sentence 12

-- 12, of one corrected colour, and of the first n
abbrev pub wild_colour_at : (ℕ → Linear) → ℕ → Bool
wild_colour_at colour i = wild_linear (colour i)

abbrev pub wild_colours : (ℕ → Linear) → ℕ → Bool
wild_colours colour n = any_up 0 n (wild_colour_at colour)
