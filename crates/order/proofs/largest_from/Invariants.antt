-- `order::largest_from` meets its contract: the largest of r and what is left is the largest of all. Assumes nothing.
use mathlib.Core.Bool.{false}
use mathlib.Core.Path.{◌≡◌}
use lib.Ieee.{is_nan}
use lib.ListN.{drop}
use Rattle.order.specs.Median.{largest}
use Rattle.order.proofs.largest_from.Given as goal

abbrev pub invariant-loop-x : goal.invariant-loop-x
invariant-loop-x l = (is_nan l.r ≡ false) × (largest l.r (drop l.x-index l.v) ≡ largest l.m l.v)
