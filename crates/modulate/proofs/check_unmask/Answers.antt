-- `modulate::check_unmask` meets its contract: each sentence that fails is passed, and what the last group asks was shown by the tests before it. Assumes nothing.
use mathlib.Core.Path.{◌≡◌, sym, ◌∙◌}
use mathlib.Core.Bool.{Bool, false}
use Prim.Native.Nat.{ℕ, ◌≤◌}
use Rattle.limits.specs.Limits.{bad_side}
use Rattle.limits.proofs.Laws.{side_in}
use Rattle.modulate.specs.Score.{bad_luma_lengths}
use Rattle.modulate.proofs.Lengths.{luma-lengths}
use Rattle.modulate.proofs.check_unmask.Goals as goal

side-most : (side : ℕ) (r : Bool) → r ≡ bad_side side → r ≡ false → side ≤ 1024
side-most side r e f = (side_in side (sym e ∙ f)).1

pairs : (xs ys luma : ℕ) (r : Bool) → r ≡ bad_luma_lengths xs ys luma → r ≡ false → xs ≡ ys
pairs xs ys luma r e f = (luma-lengths xs ys luma (sym e ∙ f)).0

pub check_modules-requires : goal.check_modules-requires
check_modules-requires c = (search (side-most), search (pairs))
