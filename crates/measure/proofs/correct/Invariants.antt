-- `measure::correct` meets its contract: before turn i the corrected colours of i references are written, and those that have a mark are counted. Assumes nothing.
use mathlib.Core.Path.{◌≡◌}
use Prim.Native.Nat.{◌*◌, ◌-◌, ◌≤◌}
use lib.ListN.{length}
use Rattle.loops.specs.Loops.{raise}
use Rattle.loops.proofs.Laws.{Left}
use Rattle.measure.specs.Measure.{held_reference, held_of}
use Rattle.measure.specs.Columns.{Corrected}
use Rattle.measure.proofs.correct.Given as goal

abbrev pub invariant-loop-i : goal.invariant-loop-i
invariant-loop-i l = (length l.s ≡ 4 * l.n) × Corrected l.model l.references.flat.now l.n 0 l.i l.s × (l.held ≤ l.i) × Left (raise (held_reference l.model l.references.flat.now)) l.n l.i l.held (held_of l.model l.references.flat.now l.n)

abbrev pub decreases-loop-i : goal.decreases-loop-i
decreases-loop-i l = l.n - l.i
