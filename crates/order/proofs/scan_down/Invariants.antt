-- `order::scan_down` meets its contract. The invariant: something still stops the scan, and the scan from e finds what it finds from `end`.
-- Assumes nothing.
use mathlib.Core.Path.{◌≡◌}
use Rattle.order.specs.Median.{scan_down, StopsDown}
use Rattle.order.proofs.scan_down.Given as goal

abbrev pub invariant-loop-e : goal.invariant-loop-e
invariant-loop-e l = StopsDown l.pivot l.v l.e × (scan_down l.pivot l.v l.end ≡ scan_down l.pivot l.v l.e)

abbrev pub decreases-loop-e : goal.decreases-loop-e
decreases-loop-e l = l.e
