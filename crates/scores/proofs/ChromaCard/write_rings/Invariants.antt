-- `ChromaCard::write_rings` meets its contract: what is left from the block's first module on gives the same, and a block makes the turns of its modules. Assumes nothing.
use Prim.Native.Nat.{◌≤◌}
use lib.ListN.{length}
use Rattle.loops.proofs.Laws.{Left}
use Rattle.color.specs.Palette.{linear_at}
use Rattle.scores.specs.Score.{write_ring, write_rings}
use Rattle.scores.proofs.ChromaCard.write_rings.Given as goal

abbrev pub invariant-loop-from : goal.invariant-loop-from
invariant-loop-from l =
    let c = l.self.meter.channel in
    let k = length l.self.seen.cells.cxs.now in
    (l.self.grid ≤ l.from) × Left (write_ring c.noise c.palette.numbers.now c.palette.hues k l.self.grid (linear_at l.self.colours.now)) l.self.modules l.from l.chroma
    (write_rings c.noise c.palette.numbers.now c.palette.hues k l.self.grid (linear_at l.self.colours.now) l.self.modules l.initial.chroma)
