-- `local::Samples::light_sums` meets its contract: what is left of the samples from i on takes the sums to the answer. Assumes nothing.
use mathlib.Core.Bool.{Bool, false}
use mathlib.Core.List.{List}
use mathlib.Core.Path.{◌≡◌}
use Prim.Native.Nat.{ℕ, ◌<◌, ◌≤◌}
use native.Mathlib.Omega.{arith}
use borrow.Author.Rules.{rules}
use lib.Ieee.{Float, nan, of_bits}
use lib.ListN.{get_or, take}
use Rattle.std.proofs.lemmas.List.{get_or-take}
use Rattle.loops.proofs.Laws.{loops, turn_to}
use Rattle.local.specs.Local.{dx_at, dy_at, y_at, weight_of}
use Rattle.local.specs.Sums.{add_light, light_at, Firsts, weight_at}
use Rattle.local.specs.declared.LightSums.{LightSums}
use Rattle.local.specs.declared.Window.{Window}
use Rattle.local.proofs.Samples.light_sums.Goals as goal

stepped : (w : Window) (light : List Bool) (i : ℕ) (s r : LightSums) (dx dy t : Float) → i < w.count → r ≡ add_light dx dy t (get_or (take w.count light) i false) s → dx ≡ dx_at w i → dy ≡ dy_at w i → t ≡ y_at w i → r ≡ light_at w light i s
unfolding light_at
stepped w light i s r dx dy t l e ex ey et = rw (← ex, ← ey, ← et, ← get_or-take w.count light i false l) e

weighed : (w : Window) (light : List Bool) (k : List Float) (i : ℕ) → Firsts (weight_at light) 49 k → w.count ≤ 49 → i < w.count → get_or k i nan ≡ weight_of (get_or (take w.count light) i false)
unfolding weight_at
weighed w light k i p h l = rw (get_or-take w.count light i false l) (p.at i (omega arith))

pub loop-i-init : goal.loop-i-init
unfolding of_bits
loop-i-init c = search (loops, rules)

pub loop-i-preserved : goal.loop-i-preserved
loop-i-preserved c =
    let at = c in
    let l : at.loop-i.i < at.args.self.now.window.now.count = search rules in
    turn_to at.loop-i.invariant l (search (stepped, rules))

pub add_light-s-requires : goal.add_light-s-requires
add_light-s-requires c = search (weighed, rules)

pub returns : goal.returns
returns c = search (loops, rules)
