-- `local::Samples::place_sums` meets its contract: what is left of the samples from i on takes the sums to the answer. Assumes nothing.
use Rattle.loops.proofs.Laws.{Left}
use Rattle.local.specs.Sums.{place_at, place_sums}
use Rattle.local.proofs.Samples.place_sums.Given as goal

abbrev pub invariant-loop-i : goal.invariant-loop-i
invariant-loop-i l = Left (place_at l.self.window.now) l.self.window.now.count l.i l.s (place_sums l.self.window.now)
