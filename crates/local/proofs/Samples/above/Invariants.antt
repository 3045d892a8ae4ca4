-- `local::Samples::above` meets its contract: what is left of the samples from i on takes the classes to the answer. Assumes nothing.
use Rattle.loops.proofs.Laws.{Left}
use Rattle.local.specs.Local.{above_at, above_of}
use Rattle.local.proofs.Samples.above.Given as goal

abbrev pub invariant-loop-i : goal.invariant-loop-i
invariant-loop-i l = Left (above_at l.self.window.now l.at) l.self.window.now.count l.i l.light (above_of l.self.window.now l.at)
