-- `local::PlaceSums::plane_by` meets its contract: the equations, solved. Assumes nothing.
use mathlib.Core.Bool.{Bool, true, false, not}
use mathlib.Core.List.{List}
use mathlib.Core.Path.{◌≡◌}
use borrow.Author.Tests.{not-true, not-false}
use lib.Ieee.{Float, of_bits}
use lib.ListN.{replicate}
use Rattle.std.specs.Prelude.{Option, None}
use Rattle.math.specs.Gauss.{zero64, settled, gauss}
use Rattle.local.specs.Local.{plane_of, solved_plane}
use Rattle.local.specs.Sums.{matrix, sides, plane_by}
use Rattle.local.specs.declared.LightSums.{LightSums}
use Rattle.local.specs.declared.Plane.{Plane}
use Rattle.local.specs.declared.PlaceSums.{PlaceSums}
use Rattle.local.proofs.PlaceSums.plane_by.Goals as goal

module _ (p : PlaceSums) (l : LightSums) (f : Bool) (a b x : List Float) (e : settled f a b x ≡ gauss 4 (matrix p l) (sides p l) (replicate 4 zero64)) where
  none : not f ≡ true → None ≡ plane_by p l
  unfolding plane_by solved_plane
  none t = rw (← e, not-true f t)

  some : (r : Option Plane) → not f ≡ false → r ≡ plane_of x → r ≡ plane_by p l
  unfolding plane_by solved_plane
  some r t g = rw (← e, not-false f t) g

pub returns-then-not-solve_core : goal.returns-then-not-solve_core
unfolding of_bits
returns-then-not-solve_core c = search (none)

pub returns : goal.returns
unfolding of_bits
returns c = search (some)
