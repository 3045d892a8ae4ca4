-- `Meter::write_distances` meets its contract: the distance of each Lab stands at its place. Assumes nothing.
use mathlib.Core.Path.{◌≡◌}
use Prim.Native.Nat.{ℕ, ◌<◌}
use Rattle.observed.specs.Entries.{number_at, lab_at}
use Rattle.scores.specs.Samples.{distance_of}
use Rattle.scores.proofs.samples.Meter.write_distances.Given as goal

abbrev pub invariant-loop-j : goal.invariant-loop-j
invariant-loop-j l = (i : ℕ) → i < l.j → number_at l.distance-items i ≡ distance_of l.self.channel.noise l.self.channel.palette.numbers.now l.self.channel.palette.hues (lab_at l.labs) i
