-- `math::at` meets its contract: row r and column k are in the slice. Assumes nothing.
use native.Mathlib.Omega.{arith}
use Rattle.loops.proofs.Laws.{cell}
use Rattle.math.proofs.at.Goals as goal

pub overflow_mul-result : goal.overflow_mul-result
overflow_mul-result c = omega (arith, cell c.requires.row c.requires.column c.requires.matrix-long)

pub overflow_add-result : goal.overflow_add-result
overflow_add-result c = omega (arith, cell c.requires.row c.requires.column c.requires.matrix-long)

pub offset_bounds-a-r : goal.offset_bounds-a-r
offset_bounds-a-r c = omega (arith, cell c.requires.row c.requires.column c.requires.matrix-long)

pub bounds-a-r : goal.bounds-a-r
bounds-a-r c = search (cell)
