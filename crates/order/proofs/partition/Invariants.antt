-- `order::partition` meets its contract. The invariant, `Going`: what is left to do from here comes to the whole parting, and while there is
-- something left, both scans are stopped within the slice. The measure is how many places are to go. Assumes nothing.
use Prim.Native.Nat.{◌-◌}
use lib.ListN.{length}
use Rattle.order.specs.Median.{parted}
use Rattle.order.proofs.Parting.{Going}
use Rattle.order.proofs.partition.Given as goal

abbrev pub invariant-loop-i : goal.invariant-loop-i
invariant-loop-i l = Going l.pivot (parted (l.hi - l.lo) l.pivot l.initial.v l.lo l.hi) (length l.initial.v) l.v l.i l.e

abbrev pub decreases-loop-i : goal.decreases-loop-i
decreases-loop-i l = l.e - l.i
