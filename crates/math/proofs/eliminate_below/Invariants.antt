-- `math::eliminate_below` meets its contract: what is left of the rows gives the same system, d being what stood on the diagonal before the first of them. Assumes nothing.
use Prim.Native.Nat.{◌+◌}
use Rattle.loops.specs.Loops.{for_up}
use Rattle.loops.proofs.Laws.{Left}
use Rattle.math.specs.Gauss.{system, eliminate_row}
use Rattle.math.proofs.eliminate_below.Given as goal

abbrev pub invariant-loop-r : goal.invariant-loop-r
invariant-loop-r l = Left (eliminate_row l.n l.col l.d) l.n l.r (system l.a l.b) (for_up (l.col + 1) l.n (eliminate_row l.n l.col l.d) (system l.initial.a l.initial.b))
