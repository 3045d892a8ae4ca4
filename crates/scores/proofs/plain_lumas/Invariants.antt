-- `plain_lumas` meets its contract: the score of each module stands at its place. Assumes nothing.
use mathlib.Core.Path.{◌≡◌}
use Prim.Native.Nat.{ℕ, ◌<◌}
use lib.ListN.{get_or}
use lib.Ieee.{nan}
use Rattle.color.specs.Color.{linear_to_lab}
use Rattle.color.specs.Palette.{linear_at}
use Rattle.stats.specs.Noise.{luma_llr}
use Rattle.scores.proofs.plain_lumas.Given as goal

abbrev pub invariant-loop-i : goal.invariant-loop-i
invariant-loop-i l = (j : ℕ) → j < l.i → get_or l.score-items j nan ≡ luma_llr l.noise (linear_to_lab (linear_at l.colours.numbers.now j)).l
