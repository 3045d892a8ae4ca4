-- `totals::gcd` meets its contract: what is left of Euclid's loop gives the same. Assumes nothing.
use Rattle.loops.proofs.Laws.{LeftWhile}
use Rattle.totals.specs.LowestTerms.{pair, rest, goes_further, next, euclid}
use Rattle.totals.proofs.gcd.Given as goal

abbrev pub invariant-loop-y : goal.invariant-loop-y
invariant-loop-y l = LeftWhile rest goes_further next (pair l.x l.y) (euclid (pair l.a l.b))

abbrev pub decreases-loop-y : goal.decreases-loop-y
decreases-loop-y l = l.y
