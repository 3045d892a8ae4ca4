-- `local::Samples::parts` meets its contract: after i turns the first i places are the samples' parts. Assumes nothing.
use mathlib.Core.Path.{◌≡◌}
use lib.ListN.{length}
use Rattle.local.specs.Sums.{Firsts, part_at}
use Rattle.local.proofs.Samples.parts.Given as goal

abbrev pub invariant-loop-i : goal.invariant-loop-i
invariant-loop-i l = (length l.v ≡ 49) × Firsts (part_at l.low l.mean l.self.window.now) l.i l.v
