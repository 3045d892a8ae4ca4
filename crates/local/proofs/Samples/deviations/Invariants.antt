-- `local::Samples::deviations` meets its contract: what is left of the samples from i on takes the list to the answer. Assumes nothing.
use Rattle.loops.proofs.Laws.{Left}
use Rattle.local.specs.Local.{deviate_at, deviations_of}
use Rattle.local.proofs.Samples.deviations.Given as goal

abbrev pub invariant-loop-i : goal.invariant-loop-i
invariant-loop-i l = Left (deviate_at l.self.window.now l.f l.fn.light) l.self.window.now.count l.i l.dev (deviations_of l.self.window.now l.f l.fn.light)
