-- `local::Samples::mean` meets its contract: what is left of the samples takes s to the sum. Assumes nothing.
use Rattle.loops.proofs.Laws.{Left}
use Rattle.local.specs.Local.{add_luminance, sum_of}
use Rattle.local.proofs.Samples.mean.Given as goal

abbrev pub invariant-loop-y : goal.invariant-loop-y
invariant-loop-y l = Left (add_luminance l.self.window.now) l.self.window.now.count l.y-index l.s (sum_of l.self.window.now)
