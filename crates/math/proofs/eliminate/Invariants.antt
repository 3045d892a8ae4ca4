-- `math::eliminate` meets its contract: what is left of the columns takes the system to the same end, or leaves it at the same column. Assumes nothing.
use Rattle.loops.proofs.Laws.{LeftTry}
use Rattle.math.specs.Gauss as gauss
use Rattle.math.specs.Gauss.{system, eliminate_column}
use Rattle.math.proofs.eliminate.Given as goal

abbrev pub invariant-loop-col : goal.invariant-loop-col
invariant-loop-col l = LeftTry (eliminate_column l.n) l.n l.col (system l.a l.b) (gauss.eliminate l.n (system l.initial.a l.initial.b))
