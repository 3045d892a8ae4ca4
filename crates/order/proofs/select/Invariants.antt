-- `order::select` meets its contract. The invariant, `Narrowing`: what is left to do from here comes to the whole selection, and k is in the range.
-- The measure is the range's length. Assumes nothing.
use Prim.Native.Nat.{◌-◌}
use lib.ListN.{length}
use Rattle.order.specs.Median.{selected}
use Rattle.order.proofs.Narrowing.{Narrowing}
use Rattle.order.proofs.select.Given as goal

abbrev pub invariant-loop-lo : goal.invariant-loop-lo
invariant-loop-lo l = Narrowing l.k (selected l.k l.initial.v) (length l.initial.v) l.v l.lo l.hi

abbrev pub decreases-loop-lo : goal.decreases-loop-lo
decreases-loop-lo l = l.hi - l.lo
