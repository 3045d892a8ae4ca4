-- `local::Samples::classify` meets its contract: what is left of the samples from i on takes the classes to the answer. Assumes nothing.
use mathlib.Core.Bool.{Bool, false}
use mathlib.Core.List.{List, ◌++◌}
use mathlib.Core.Path.{◌≡◌}
use Prim.Native.Nat.{ℕ, ◌<◌}
use native.Mathlib.Omega.{arith}
use borrow.Author.Rules.{rules}
use lib.Ieee.{Float}
use lib.ListN.{length, get_or, set, take, drop, get_or-append}
use lib.Seq.{length-take-le}
use Rattle.std.specs.Prelude.{Some}
use Rattle.std.proofs.lemmas.List.{set-append_left, take-append-drop}
use Rattle.loops.proofs.Laws.{Left, begin, turn_to, done}
use Rattle.local.specs.Local.{dx_at, dy_at, y_at, is_light, moved_by, classes, classify_by, classify_at, classified}
use Rattle.local.specs.declared.Plane.{Plane}
use Rattle.local.specs.declared.Window.{Window}
use Rattle.local.proofs.Samples.classify.Goals as goal

module _ (w : Window) (p : Plane) where
  begun : (l : List Bool) (n : ℕ) → Left (classify_at w p) w.count 0 (classes (take n l ++ drop n l) false (Some p)) (classified w p (classes l false (Some p)))
  begun l n = rw (take-append-drop n l) begin

  -- s are the classes that the loop writes, r those behind them
  placed : (s r : List Bool) (i : ℕ) (moved b m : Bool) (dx dy y : Float) → i < length s → dx ≡ dx_at w i → dy ≡ dy_at w i → y ≡ y_at w i → b ≡ is_light p dx dy y
      → m ≡ moved_by moved (get_or s i false) b → classes (set s i b ++ r) m (Some p) ≡ classify_at w p i (classes (s ++ r) moved (Some p))
  unfolding classify_at classify_by
  placed s r i moved b m dx dy y l ex ey et e f =
      rw (set-append_left s r i (is_light p (dx_at w i) (dy_at w i) (y_at w i)) l, get_or-append s r false i l, ← ex, ← ey, ← et, ← e, ← f)

pub loop-i-init : goal.loop-i-init
loop-i-init c = begun _ _ _ _

pub loop-i-preserved : goal.loop-i-preserved
loop-i-preserved c =
    let at = c in
    let l : at.loop-i.i < at.args.self.now.window.now.count = search rules in
    turn_to at.loop-i.invariant l (search (placed, rules))

pub returns : goal.returns
returns c =
    let at = c in
    let p = length-take-le at.args.self.now.window.now.count at.args.classes (search rules) in
    done at.loop-i.invariant (omega arith)
