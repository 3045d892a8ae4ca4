-- The corrected colour of a spot is the spot unshaded and then mixed, so a step that puts this colour is the step of the definition. It has a mark where the spot's place says so. And what is said of
-- spots is what is said of the modules and of the cells whose spots they are. Assumes nothing.
use mathlib.Core.Path.{◌≡◌, refl, ap, ◌∙◌}
use mathlib.Core.Bool.{Bool}
use mathlib.Core.List.{List}
use Prim.Native.Nat.{ℕ, ◌+◌}
use lib.IntN.{ℤ}
use lib.Ieee.{Float}
use native.Mathlib.Nat.{zero-add}
use Rattle.loops.specs.Loops.{for_up, raise}
use Rattle.loops.proofs.Laws.{for_up_same}
use Rattle.color.specs.declared.Linear.{Linear}
use Rattle.color.specs.Palette.{wild_linear}
use Rattle.illum.specs.declared.IlluminationModel.{IlluminationModel}
use Rattle.illum.specs.declared.Unshaded.{Unshaded}
use Rattle.illum.specs.declared.Unrounded.{Unrounded}
use Rattle.illum.specs.Correct.{unshaded, rows, rounded, mixed, corrected, count_held}
use Rattle.illum.specs.declared.Corrector.{Corrector}
use Rattle.illum.proofs.Marks.{counts-position}
use Rattle.illum.proofs.Rounded.{rows-mixed}
use Rattle.illum.specs.declared.Spot.{Spot}
use Rattle.observed.specs.Entries.{onwards}
use Rattle.observed.specs.Colours.{module_spot, cell_spot, module_colour, cell_colour, corrected_spot, spot_colour, put_colour, colour_at, write_colours, held_module, held_module_count, held_cell, held_spot, held_from, wild_colour_at}

module _ (model : IlluminationModel) (s : Spot) (d : Unshaded) (ed : d ≡ unshaded model s.x s.y s.colour) where
  spot_mixed : (mixed model d).colour ≡ corrected_spot model s
  unfolding corrected_spot
  spot_mixed = rw ed

  module _ (spots : ℕ → Spot) (from j : ℕ) (es : s ≡ spots (from + j)) where
    pub colour_step : (v : Unrounded) (before after : List Float) → v ≡ rows model d → after ≡ put_colour before j (rounded v) → after ≡ colour_at (onwards (spot_colour model spots) from) j before
    unfolding colour_at onwards spot_colour
    colour_step v before after ev e = rw (← es, ← spot_mixed, ← rows-mixed model d v ev) e

    pub counted : (k r : ℕ) → r ≡ count_held d k → r ≡ raise (held_spot model spots) (from + j) k
    unfolding held_spot
    counted k r e = counts-position model _ _ _ d k r (held_spot model spots) (from + j) e ed (rw es)

pub wild_at : (model : IlluminationModel) (spots : ℕ → Spot) (i : ℕ) (k : Corrector) (s : Spot) (r : Bool) → k.model.now ≡ model → s ≡ spots i → r ≡ wild_linear (corrected k.model.now s.x s.y s.colour).colour → r ≡ wild_colour_at (spot_colour model spots) i
unfolding spot_colour corrected_spot
wild_at model spots i k s r ek es e = rw (← es, ← ek) e

module _ (model : IlluminationModel) (xs ys : List ℤ) (raw : List Float) where
  pub module_colours : spot_colour model (module_spot xs ys raw) ≡ module_colour model xs ys raw
  unfolding spot_colour corrected_spot module_spot module_colour
  module_colours = refl

  pub modules-held : held_spot model (module_spot xs ys raw) ≡ held_module model xs ys
  unfolding held_spot module_spot held_module
  modules-held = refl

module _ (model : IlluminationModel) (size : ℕ) (cxs cys : List ℕ) (raw : List Float) where
  pub cell-colours : spot_colour model (cell_spot size cxs cys raw) ≡ cell_colour model size cxs cys raw
  unfolding spot_colour corrected_spot cell_spot cell_colour
  cell-colours = refl

  pub cells-held : held_spot model (cell_spot size cxs cys raw) ≡ held_cell model size cxs cys
  unfolding held_spot cell_spot held_cell
  cells-held = refl

-- ---- all modules, from the first on

module _ (model : IlluminationModel) (xs ys : List ℤ) (raw : List Float) (m : ℕ) where
  pub modules_written : (before after : List Float) → after ≡ write_colours (onwards (spot_colour model (module_spot xs ys raw)) 0) m before → after ≡ write_colours (module_colour model xs ys raw) m before
  unfolding onwards colour_at
  modules_written before after e =
      e ∙ for_up_same (colour_at (onwards (spot_colour model (module_spot xs ys raw)) 0)) (colour_at (module_colour model xs ys raw)) m 0 before
      (λ j l h s. ap (put_colour s j) (ap (spot_colour model (module_spot xs ys raw)) (zero-add j) ∙ ap (λ (f : ℕ → Linear). f j) (module_colours model xs ys raw)))

  pub modules_counted : (r : ℕ) → r ≡ held_from model (module_spot xs ys raw) 0 m 0 → r ≡ held_module_count model xs ys m
  modules_counted r e = e ∙ ap (λ (f : ℕ → Bool). for_up 0 (0 + m) (raise f) 0) (modules-held model xs ys raw) ∙ ap (λ (k : ℕ). for_up 0 k (raise (held_module model xs ys)) 0) (zero-add m)
