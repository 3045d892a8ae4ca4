-- `math::subtract_row` meets its contract: what is left of the row gives the same matrix. Assumes nothing.
use Rattle.loops.proofs.Laws.{Left}
use Rattle.math.specs.Gauss.{subtract_at, subtract_row}
use Rattle.math.proofs.subtract_row.Given as goal

abbrev pub invariant-loop-k : goal.invariant-loop-k
invariant-loop-k l = Left (subtract_at l.n l.col l.r l.f) l.n l.k l.a (subtract_row l.n l.col l.r l.f l.initial.a)
