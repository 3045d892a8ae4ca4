-- `ChromaCard::put_entries` meets its contract: what is left from j on gives the same. Assumes nothing.
use Rattle.loops.proofs.Laws.{Left}
use Rattle.scores.specs.Score.{put_entry, put_entries}
use Rattle.scores.proofs.ChromaCard.put_entries.Given as goal

abbrev pub invariant-loop-j : goal.invariant-loop-j
invariant-loop-j l =
    let c = l.self.meter.channel in
    let s = l.self.seen.cells in
    Left (put_entry c.noise c.palette.numbers.now c.palette.hues s.cxs.now s.cys.now l.samples.labs l.samples.weights l.first) l.samples.n l.j l.chroma
    (put_entries c.noise c.palette.numbers.now c.palette.hues s.cxs.now s.cys.now l.samples.labs l.samples.weights l.first l.samples.n l.initial.chroma)
