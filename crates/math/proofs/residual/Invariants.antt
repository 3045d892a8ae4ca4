-- `math::residual` meets its contract: what is left of the row gives the same difference. Assumes nothing.
use Rattle.loops.proofs.Laws.{Left}
use Rattle.math.specs.Gauss as gauss
use Rattle.math.proofs.residual.Given as goal

abbrev pub invariant-loop-k : goal.invariant-loop-k
invariant-loop-k l = Left (gauss.residual_at l.n l.a l.x l.r) l.n l.k l.s (gauss.residual l.n l.a l.b l.x l.r)
