-- `Samples::put_lumas` meets its contract: what is left from j on gives the same. Assumes nothing.
use Rattle.loops.proofs.Laws.{Left}
use Rattle.scores.specs.Score.{put_luma, put_lumas}
use Rattle.scores.proofs.samples.Samples.put_lumas.Given as goal

abbrev pub invariant-loop-j : goal.invariant-loop-j
invariant-loop-j l = Left (put_luma l.noise l.self.labs l.self.weights l.from) l.self.n l.j l.luma (put_lumas l.noise l.self.labs l.self.weights l.from l.self.n l.initial.luma)
