-- `order::quarters_of` meets its contract: what is left of the quarters gives the same four numbers. Assumes nothing.
use mathlib.Core.Bool.{true}
use mathlib.Core.List.{List}
use mathlib.Core.Path.{◌≡◌, refl}
use Prim.Native.Nat.{ℕ}
use borrow.Author.Rules.{rules}
use lib.Ieee.{inf, is_nan, of_bits, Float}
use Rattle.loops.proofs.Laws.{Left, loops, begin, turn_to}
use Rattle.order.specs.Quarters.{AllNumbers, quarters, elements_at, largest_each, quarters_at, quarters_of}
use Rattle.order.specs.declared.Quarters.{Quarters}
use Rattle.order.proofs.quarters_of.Goals as goal

none : (v : List Float) (q : ℕ) (l : Quarters) → l ≡ quarters (inf true) (inf true) (inf true) (inf true) → AllNumbers l × Left (quarters_at v q) q 0 l (quarters_of v q)
unfolding is_nan
none v q l e = rw e (record { a = refl; b = refl; c = refl; d = refl }, begin)

next : (v : List Float) (q i : ℕ) (l x r : Quarters) → x ≡ elements_at v q i → r ≡ largest_each l x → r ≡ quarters_at v q i l
unfolding quarters_at
next v q i l x r ex er = rw ex at er

pub loop-i-init : goal.loop-i-init
unfolding of_bits
loop-i-init c = none _ _ _ c.all-l.ensures

pub loop-i-preserved : goal.loop-i-preserved
loop-i-preserved c =
    let r = c.larger-l.ensures in
    (r.1, turn_to c.loop-i.invariant.1 c.loop-i-test.true (next _ _ _ c.loop-i.l c.at.result _ c.at.ensures r.0))

pub returns : goal.returns
returns c = search (loops, rules)
