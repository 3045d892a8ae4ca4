-- `measure::convert` meets its contract: before turn i the numbers of i references are written, the colours of the others stand,
-- and every slot in use holds a colour with what is known of it. Assumes nothing.
use mathlib.Core.Path.{◌≡◌}
use Prim.Native.Nat.{◌*◌, ◌-◌}
use lib.ListN.{length}
use Rattle.measure.specs.Columns.{Converted, Remembered}
use Rattle.measure.proofs.convert.Given as goal

abbrev pub invariant-loop-i : goal.invariant-loop-i
invariant-loop-i l = (length l.s ≡ 4 * l.references.n) × Converted l.levels.palette.numbers.now l.references.flat.now l.references.n l.i l.initial.s l.s × Remembered l.levels.palette.numbers.now l.memo

abbrev pub decreases-loop-i : goal.decreases-loop-i
decreases-loop-i l = l.references.n - l.i
