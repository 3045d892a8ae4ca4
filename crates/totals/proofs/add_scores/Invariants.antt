-- `totals::add_scores` meets its contract: after i turns the scores so far are added, which leaves room for one more. Assumes nothing.
use mathlib.Core.Path.{◌≡◌}
use lib.ListN.{take}
use Rattle.totals.proofs.Batches.{Begun, after}
use Rattle.totals.proofs.add_scores.Given as goal

abbrev pub invariant-loop-v : goal.invariant-loop-v
invariant-loop-v l = Begun l.luma l.initial.sums × (l.sums ≡ after l.initial.sums (take l.v-index l.luma))
