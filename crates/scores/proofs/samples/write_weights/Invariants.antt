-- `write_weights` meets its contract: the weight of each distance stands at its place. Assumes nothing.
use mathlib.Core.Path.{◌≡◌}
use Prim.Native.Nat.{ℕ, ◌<◌}
use Rattle.observed.specs.Entries.{number_at}
use Rattle.scores.specs.Samples.{weight_of}
use Rattle.scores.proofs.samples.write_weights.Given as goal

abbrev pub invariant-loop-j : goal.invariant-loop-j
invariant-loop-j l = (i : ℕ) → i < l.j → number_at l.weight-items i ≡ weight_of (number_at l.distances) i
