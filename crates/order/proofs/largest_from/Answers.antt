-- `order::largest_from` meets its contract: the largest of r and what is left is the largest of all. Assumes nothing.
use mathlib.Core.List.{List}
use mathlib.Core.Path.{◌≡◌}
use Prim.Native.Nat.{ℕ, ◌+◌, ◌<◌, ◌≤◌}
use native.Mathlib.Numerals.{add-one}
use borrow.Author.Rules.{rules}
use lib.Ieee.{Float, nan}
use lib.ListN.{length, get_or, drop, drop_of_length-le}
use lib.Seq.{drop-cons}
use Rattle.float.specs.Select.{max}
use Rattle.order.specs.Median.{largest}
use Rattle.order.proofs.largest_from.Goals as goal

step : (v : List Float) (i : ℕ) (r r' t : Float) → largest r (drop i v) ≡ t → i < length v → r' ≡ max r (get_or v i nan) → largest r' (drop (i + 1) v) ≡ t
unfolding largest
step v i r r' t g h e = rw e (rw add-one (rw (drop-cons v i nan h) at g))

stop : (v : List Float) (i : ℕ) (r t : Float) → largest r (drop i v) ≡ t → length v ≤ i → r ≡ t
unfolding largest
stop v i r t g h = rw (drop_of_length-le v h) at g

pub loop-x-preserved : goal.loop-x-preserved
loop-x-preserved c = (search rules, search (step, rules))

pub returns : goal.returns
returns c = search (stop, rules)
