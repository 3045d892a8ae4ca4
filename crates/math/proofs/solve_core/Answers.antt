-- `math::solve_core` meets its contract: elimination and then back substitution, which gives the same unknowns whatever x held. Assumes nothing.
use mathlib.Core.Path.{◌≡◌, ap}
use mathlib.Core.Bool.{Bool, true, false}
use mathlib.Core.List.{List}
use Prim.Native.Nat.{ℕ, ◌≤◌}
use lib.ListN.{length}
use lib.Ieee.{Float}
use Rattle.loops.specs.Loops.{turn_of}
use Rattle.math.specs.Gauss.{system, settled, eliminate, back_substitute, concluded, gauss}
use Rattle.math.proofs.Fresh.{fresh}
use Rattle.math.proofs.solve_core.Goals as goal

module _ (n : ℕ) (a b x a' b' : List Float) (r : Bool) (e : turn_of r (system a' b') ≡ eliminate n (system a b)) where
  none : r ≡ false → settled r a' b' x ≡ gauss n a b x
  unfolding gauss concluded
  none t = rw t (ap (concluded n x) (rw t at e))

  one : (x' : List Float) → r ≡ true → n ≤ length x → x' ≡ back_substitute n a' b' x → settled r a' b' x' ≡ gauss n a b x
  unfolding gauss concluded
  one x' t hx h = rw t (rw (h, fresh n a' b' x hx) (ap (concluded n x) (rw t at e)))

pub returns-then-found : goal.returns-then-found
returns-then-found c = search (one)

pub returns-else-found : goal.returns-else-found
returns-else-found c = search (none)
