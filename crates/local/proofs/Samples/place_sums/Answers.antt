-- `local::Samples::place_sums` meets its contract: what is left of the samples from i on takes the sums to the answer. Assumes nothing.
use mathlib.Core.Path.{◌≡◌}
use Prim.Native.Nat.{ℕ}
use borrow.Author.Rules.{rules}
use lib.Ieee.{Float, of_bits}
use Rattle.loops.proofs.Laws.{loops}
use Rattle.local.specs.Local.{dx_at, dy_at, y_at}
use Rattle.local.specs.Sums.{add_place, place_at}
use Rattle.local.specs.declared.PlaceSums.{PlaceSums}
use Rattle.local.specs.declared.Window.{Window}
use Rattle.local.proofs.Samples.place_sums.Goals as goal

stepped : (w : Window) (i : ℕ) (s r : PlaceSums) (dx dy t : Float) → r ≡ add_place dx dy t s → dx ≡ dx_at w i → dy ≡ dy_at w i → t ≡ y_at w i → r ≡ place_at w i s
unfolding place_at
stepped w i s r dx dy t e ex ey et = rw (← ex, ← ey, ← et) e

pub loop-i-init : goal.loop-i-init
unfolding of_bits
loop-i-init c = search (loops, rules)

pub loop-i-preserved : goal.loop-i-preserved
loop-i-preserved c = search (stepped, loops, rules)

pub returns : goal.returns
returns c = search (loops, rules)
