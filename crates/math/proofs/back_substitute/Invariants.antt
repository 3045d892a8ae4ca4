-- `math::back_substitute` meets its contract: what is left of the rows above gives the same unknowns. Assumes nothing.
use Rattle.loops.proofs.Laws.{LeftDown}
use Rattle.math.specs.Gauss.{unknown, back_substitute}
use Rattle.math.proofs.back_substitute.Given as goal

abbrev pub invariant-loop-r : goal.invariant-loop-r
invariant-loop-r l = LeftDown (unknown l.n l.a l.b) l.r l.x (back_substitute l.n l.a l.b l.initial.x)
