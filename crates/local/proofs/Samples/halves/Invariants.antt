-- `local::Samples::halves` meets its contract: what is left of the samples from i on takes the halves to the answer; after i samples neither half has more than i. Assumes nothing.
use Prim.Native.Nat.{◌≤◌}
use Rattle.loops.proofs.Laws.{Left}
use Rattle.local.specs.Local.{mean_of, halve_at, halves_of}
use Rattle.local.proofs.Samples.halves.Given as goal

abbrev pub invariant-loop-i : goal.invariant-loop-i
invariant-loop-i l = (l.s.nl ≤ l.i) × (l.s.nh ≤ l.i) × Left (halve_at l.self.window.now (mean_of l.self.window.now)) l.self.window.now.count l.i l.s (halves_of l.self.window.now)
