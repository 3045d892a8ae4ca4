-- What reading says of a score's sign: 0 of a score above zero, 1 of one below it. A comparison of floats is one of whole numbers. Assumes nothing.
use mathlib.Core.Path.{◌≡◌, refl, sym, subst}
use mathlib.Core.Logic.{⊎_elim}
use mathlib.Core.Bool.{Bool, true, false}
use Prim.Native.Nat.{◌<◌}
use native.Mathlib.Omega.{arith}
use lib.Dec.{T}
use lib.IntN.{pos}
use lib.Ieee.{Float, fin, Format, binary32, lt}
use Rattle.floatlaws.specs.Value.{hi, lo, Num, one_side}
use Rattle.floatlaws.specs.Order.{to_lt, of_lt, above-none}
use Rattle.floatlaws.specs.Ops.{zero-num, zero-sides}
use Rattle.reading.specs.Read.{reads}

is_true : (b : Bool) → T b → b ≡ true
is_true true t = refl
is_true false t = absurd t

module _ (f : Format) (x : Float) (q : Num f x) where
  not-below : 0 < hi f x → (b : Bool) → lt x (fin false 0 (pos 0)) ≡ b → b ≡ false
  not-below a false e = refl
  not-below a true e =
      let u = of_lt q (zero-num f false) (subst T (sym e) tt) in
      let z = zero-sides f false in
      let o = above-none f x a in
      absurd (omega arith)

  is_below : 0 < lo f x → lt x (fin false 0 (pos 0)) ≡ true
  is_below a =
      let z = zero-sides f false in
      is_true (lt x (fin false 0 (pos 0))) (to_lt q (zero-num f false) (⊎_elim (λ (e : hi f x ≡ 0). record { lt = omega arith }) (λ (e : lo f x ≡ 0). absurd (omega arith)) (one_side f x)))

  is_above : 0 < hi f x → lt (fin false 0 (pos 0)) x ≡ true
  is_above a =
      let z = zero-sides f false in
      let o = above-none f x a in
      is_true (lt (fin false 0 (pos 0)) x) (to_lt (zero-num f false) q (record { lt = omega arith }))

pub read-zero : (x : Float) → Num binary32 x → 0 < hi binary32 x → reads x ≡ 0
unfolding reads
read-zero x q a = rw (not-below binary32 x q a (lt x (fin false 0 (pos 0))) refl, is_above binary32 x q a)

pub read_one : (x : Float) → Num binary32 x → 0 < lo binary32 x → reads x ≡ 1
unfolding reads
read_one x q a = rw (is_below binary32 x q a)
