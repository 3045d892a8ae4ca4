-- `order::place_of_many` meets its contract: the search stands at a place of the list. Assumes nothing.
use Prim.Native.Nat.{◌<◌}
use lib.ListN.{length}
use Rattle.order.proofs.place_of_many.Given as goal

abbrev pub invariant-loop-i : goal.invariant-loop-i
invariant-loop-i l = l.b.at < length l.v
