-- `modulate::unmask_grid` meets its contract: each score that was looked at is unmasked, and the others are as they were. Assumes nothing.
use mathlib.Core.Path.{◌≡◌}
use Prim.Native.Nat.{ℕ, ◌≤◌, ◌<◌}
use lib.ListN.{get_or}
use lib.Ieee.{nan}
use Rattle.modulate.specs.Score.{unmask_at}
use Rattle.modulate.proofs.unmask_grid.Given as goal

abbrev pub invariant-loop-i : goal.invariant-loop-i
invariant-loop-i l =
    ((j : ℕ) → j < l.i → get_or l.score-items j nan ≡ unmask_at l.mask l.modules.xs.now l.modules.ys.now j (get_or l.initial.score-items j nan)) × ((j : ℕ) → l.i ≤ j → get_or l.score-items j nan ≡ get_or l.initial.score-items j nan)
