-- `math::put` meets its contract: row r and column k are in the slice. Assumes nothing.
use native.Mathlib.Omega.{arith}
use Rattle.loops.proofs.Laws.{cell}
use Rattle.math.proofs.put.Goals as goal

pub overflow_mul-a : goal.overflow_mul-a
overflow_mul-a c = omega (arith, cell c.requires.row c.requires.column c.requires.matrix-long)

pub overflow_add-a : goal.overflow_add-a
overflow_add-a c = omega (arith, cell c.requires.row c.requires.column c.requires.matrix-long)

pub offset_bounds-a-r : goal.offset_bounds-a-r
offset_bounds-a-r c = omega (arith, cell c.requires.row c.requires.column c.requires.matrix-long)

pub bounds-a-r : goal.bounds-a-r
bounds-a-r c = search (cell)
