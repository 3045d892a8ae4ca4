-- `math::pivot_row` meets its contract: what is left of the rows finds the same pivot, and every row that it finds is below n. Assumes nothing.
use Prim.Native.Nat.{◌<◌}
use Rattle.loops.proofs.Laws.{Left}
use Rattle.math.specs.Gauss.{larger, pivot_row}
use Rattle.math.proofs.pivot_row.Given as goal

abbrev pub invariant-loop-r : goal.invariant-loop-r
invariant-loop-r l = (l.pivot < l.n) × Left (larger l.n l.a l.col) l.n l.r l.pivot (pivot_row l.n l.a l.col)
