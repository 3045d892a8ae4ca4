-- `order::count_of` meets its contract: of a test that gives the closure's answers, the values so far are counted. Assumes nothing.
use mathlib.Core.Bool.{Bool}
use mathlib.Core.Path.{◌≡◌}
use Prim.Native.Nat.{◌≤◌}
use lib.Dec.{T}
use lib.Ieee.{Float, binary32, fits}
use Rattle.order.proofs.Tally.{Counting}
use Rattle.order.proofs.count_of.Given as goal

abbrev pub invariant-loop-x : goal.invariant-loop-x
invariant-loop-x g l =
    (l.n ≤ l.x-index)
    × ((f : Float → Bool) → ((x : Float) (b : Bool) → T (fits binary32 x) → goal.F-post g l.test x b → b ≡ f x) → Counting f l.v l.x-index l.n)
