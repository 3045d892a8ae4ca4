-- `local::Samples::light_sums` meets its contract: what is left of the samples from i on takes the sums to the answer. Assumes nothing.
use Rattle.loops.proofs.Laws.{Left}
use Rattle.local.specs.Sums.{light_at, light_sums}
use Rattle.local.proofs.Samples.light_sums.Given as goal

abbrev pub invariant-loop-i : goal.invariant-loop-i
invariant-loop-i l = Left (light_at l.self.window.now l.fn.light) l.self.window.now.count l.i l.s (light_sums l.self.window.now l.fn.light)
