-- `ChromaCard::write_cells` meets its contract: what is left from the block's first cell on gives the same, of the scores and of the count, and a block makes the turns of its cells. Assumes nothing.
use Prim.Native.Nat.{◌≤◌}
use lib.ListN.{length}
use Rattle.loops.specs.Loops.{raise}
use Rattle.loops.proofs.Laws.{Left}
use Rattle.observed.specs.Colours.{cell_colour, held_cell, held_cells}
use Rattle.scores.specs.Score.{write_cell, write_cells}
use Rattle.scores.proofs.ChromaCard.write_cells.Given as goal

abbrev pub invariant-loop-from : goal.invariant-loop-from
invariant-loop-from l =
    let c = l.self.meter.channel in
    let s = l.self.seen in
    let xs = s.cells.cxs.now in
    let ys = s.cells.cys.now in
    Left (write_cell c.noise c.palette.numbers.now c.palette.hues xs ys (cell_colour l.model s.size xs ys s.raw.now)) (length xs) l.from l.chroma
    (write_cells c.noise c.palette.numbers.now c.palette.hues xs ys (cell_colour l.model s.size xs ys s.raw.now) (length xs) l.initial.chroma) ×
    (l.held ≤ l.from) × Left (raise (held_cell l.model s.size xs ys)) (length xs) l.from l.held (held_cells l.model s.size xs ys (length xs))
