-- `local::weights` meets its contract: after i turns the first i places are the classes as numbers. Assumes nothing.
use mathlib.Core.Path.{◌≡◌}
use lib.ListN.{length}
use Rattle.local.specs.Sums.{Firsts, weight_at}
use Rattle.local.proofs.weights.Given as goal

abbrev pub invariant-loop-i : goal.invariant-loop-i
invariant-loop-i l = (length l.k ≡ 49) × Firsts (weight_at l.fn.light) l.i l.k
