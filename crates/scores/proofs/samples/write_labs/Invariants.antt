-- `write_labs` meets its contract: the Lab of each colour stands at its place. Assumes nothing.
use mathlib.Core.Path.{◌≡◌}
use Prim.Native.Nat.{ℕ, ◌<◌}
use Rattle.color.specs.Palette.{linear_at}
use Rattle.observed.specs.Entries.{lab_at, onwards}
use Rattle.scores.specs.Samples.{lab_of}
use Rattle.scores.proofs.samples.write_labs.Given as goal

abbrev pub invariant-loop-j : goal.invariant-loop-j
invariant-loop-j l = (i : ℕ) → i < l.j → lab_at l.lab-items i ≡ lab_of (onwards (linear_at l.colours.numbers.now) l.from) i
