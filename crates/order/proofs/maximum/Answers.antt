-- `order::maximum` meets its contract: the largest of the quarters, and of what is behind them, is the largest of all. Assumes nothing.
use mathlib.Core.Path.{◌≡◌, ◌∙◌}
use mathlib.Core.Bool.{true}
use mathlib.Core.List.{List}
use Prim.Native.Nat.{ℕ, ◌*◌, ◌-◌, ◌≤◌}
use native.Mathlib.Omega.{arith}
use lib.ListN.{length, drop, take}
use lib.Ieee.{Float, inf}
use Rattle.float.specs.Select.{max}
use Rattle.order.specs.declared.Quarters.{Quarters}
use Rattle.order.specs.Median.{largest}
use Rattle.order.specs.Quarters.{AllNumbers, quarters_of}
use Rattle.std.proofs.lemmas.List.{take_rest}
use Rattle.order.proofs.Largest.{max-number, joined}
use Rattle.order.proofs.maximum.Goals as goal

whole : (v : List Float) (q : ℕ) (l : Quarters) (x y m r : Float) → r ≡ largest m (take (length v - 4 * q) (drop (4 * q) v)) → m ≡ max y l.d → y ≡ max x l.c → x ≡ max l.a l.b
    → l ≡ quarters_of v q → AllNumbers l → 4 * q ≤ length v → r ≡ largest (inf true) v
whole v q l x y m r er em ey ex el n h =
    er ∙ rw (take_rest, em, ey, ex)
    (joined v q h l el n.a (max-number l.a l.b n.a) (max-number (max l.a l.b) l.c (max-number l.a l.b n.a)))

pub returns : goal.returns
returns c =
    let m = c.larger-m in
    let y = c.larger-2 in
    let x = c.larger in
    let l = c.quarters_of-l in
    whole _ _ l.result x.result y.result m.result _ c.largest_from.ensures m.ensures.0 y.ensures.0 x.ensures.0 l.ensures.0 l.ensures.1 (omega arith)
