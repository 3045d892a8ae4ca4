-- `order::scan_up` meets its contract. The invariant: something still stops the scan, and the scan from i finds what it finds from `from`.
-- Assumes nothing.
use Prim.Native.Nat.{◌-◌}
use mathlib.Core.Path.{◌≡◌}
use lib.ListN.{length}
use Rattle.order.specs.Median.{scan_up, StopsUp}
use Rattle.order.proofs.scan_up.Given as goal

abbrev pub invariant-loop-i : goal.invariant-loop-i
invariant-loop-i l = StopsUp l.pivot l.v l.i × (scan_up l.pivot l.v l.from ≡ scan_up l.pivot l.v l.i)

abbrev pub decreases-loop-i : goal.decreases-loop-i
decreases-loop-i l = length l.v - l.i
