-- `modulate::cell_hue` meets its contract: refused by the first sentence that holds, or the hue. Assumes nothing.
use mathlib.Core.Path.{◌≡◌}
use Prim.Native.Nat.{ℕ}
use Rattle.symbols.specs.Gray.{chroma_symbol_to_hue}
use Rattle.symbols.specs.Mask.{chroma_mask_apply}
use Rattle.modulate.specs.Draw.{cell_hue}
use Rattle.answers.proofs.Answers.{turned_away, says-given, cell-hues-some, cell-hues-few}
use Rattle.modulate.proofs.cell_hue.Goals as goal

steps : (s cx cy k h r : ℕ) → h ≡ chroma_symbol_to_hue s k → r ≡ chroma_mask_apply h cx cy k → r ≡ cell_hue s cx cy k
unfolding cell_hue
steps s cx cy k h r e f = cc

pub returns-in_err-check_cell : goal.returns-in_err-check_cell
returns-in_err-check_cell c = search (turned_away, c.in_err-check_cell.ensures)

pub invariant_of-known : goal.invariant_of-known
invariant_of-known c = record { least = search (cell-hues-some, c.in_ok-check_cell.ensures) }

pub apply-requires : goal.apply-requires
apply-requires c = search (cell-hues-few, c.in_ok-check_cell.ensures)

pub returns : goal.returns
returns c = search (says-given, steps, c.in_ok-check_cell.ensures)
