-- Numbers that are not below zero, infinity included (`Plus`): squares are, and their sums, quotients and roots stay so. A NaN aside, that is all that `reliability` ever holds. Assumes nothing.
use mathlib.Core.Path.{◌≡◌, refl, ap, ◌∙◌}
use mathlib.Core.Logic.{◌⊎◌, inl, inr}
use mathlib.Core.Bool.{Bool, true, false}
use Prim.Native.Nat.{ℕ, ◌+◌, ◌-◌, ◌*◌, ◌<◌}
use native.Mathlib.Nat.{lt_irrefl, lt_of_lt_of_le, le_of_eq, mul-pos, zero-mul}
use native.Mathlib.Omega.{arith}
use lib.Dec.{T}
use lib.Ieee.{Float, nan, inf, fin, binary32, up, down, unlike, round, add, mul, is_nan, fits}
use lib.Ieee.Fits.{down_pos}
use Rattle.floatlaws.specs.Value.{mag, hi, lo, unit, Num, overflow-pos}
use Rattle.floatlaws.specs.Near.{near, near-zero, round-num, lo_round, Rounds}
use Rattle.floatlaws.specs.Finite.{Fin, num, add-num, div-num}
use Rattle.floatlaws.proofs.Ops.{add_rounds, div-rounds}
use Rattle.float.specs.Root.{sqrt_of}
use Rattle.float.proofs.Roots.{sqrt-num}
use Rattle.stats.specs.Arithmetic.{◌⊕◌, ◌⊘◌, squared}

pub record Plus (x : Float) : Type 0 where
  pub num : Num binary32 x
  pub none : lo binary32 x ≡ 0

-- a result that may be no number
abbrev pub Plain : Float → Type 0
Plain x = (x ≡ nan) ⊎ Plus x

infinite-num : (s : Bool) → Num binary32 (inf s)
infinite-num s = record { fit = unfold fits in tt; real = unfold is_nan in tt }

pub infinite : Plus (inf false)
unfolding lo
infinite = record { num = infinite-num false; none = refl }

below-zero : lo binary32 (inf true) ≡ 0 → ⊥
unfolding lo mag
below-zero e = lt_irrefl 0 (lt_of_lt_of_le (mul-pos (overflow-pos binary32) (overflow-pos binary32)) (le_of_eq e))

-- ---- squares

same_signs : (s : Bool) → unlike s s ≡ false
same_signs true = refl
same_signs false = refl

rounded : (s : Bool) (a c : ℕ) → s ≡ false → 0 < c → Plus (round binary32 s a c)
rounded true a c e p = let z : ◌≡◌ {A = ℕ} 0 1 = cc in absurd (omega arith)
rounded false a c e p = record { num = round-num binary32 false a c; none = lo_round binary32 false a c p }

pub square : (x : Float) → Num binary32 x → Plus (squared x)
unfolding mul
square nan p = absurd (unfold is_nan in p.real)
square (inf true) p = infinite
square (inf false) p = infinite
square (fin s m e) p = rounded (unlike s s) (m * up e * (m * up e)) (down e * down e) (same_signs s) (mul-pos (down_pos e) (down_pos e))

pub square-plain : (x : Float) → T (fits binary32 x) → Plain (squared x)
unfolding mul
square-plain nan t = inl refl
square-plain (inf s) t = inr (square (inf s) (infinite-num s))
square-plain (fin s m e) t = inr (square (fin s m e) (record { fit = t; real = unfold is_nan in tt }))

-- ---- sums, quotients, roots, and the smaller of two

nothing : (p n : ℕ) → n ≡ 0 → n - p ≡ 0
nothing p n e = omega arith

-- rounded from a number that is not below zero
from-plus : {z : Float} {P N C : ℕ} → Rounds binary32 z P N C → N ≡ 0 → Plus z
from-plus {z} {P} {N} {C} r e =
    record { num = r.num; none = r.lo ∙ ap (λ (n : ℕ). near binary32 n C) (nothing P N e) ∙ near-zero binary32 C r.below }

add_none : (a b : ℕ) → a ≡ 0 → b ≡ 0 → a + b ≡ 0
add_none a b p q = omega arith

sum_of : {x y : Float} → Plus x → Plus y → Num binary32 (x ⊕ y) → Plus (x ⊕ y)
sum_of {x} {y} p q r = from-plus (add_rounds p.num q.num r) (add_none (lo binary32 x) (lo binary32 y) p.none q.none)

pub add-plus : (x y : Float) → Plus x → Plus y → Plus (x ⊕ y)
unfolding add
add-plus nan y p q = absurd (unfold is_nan in p.num.real)
add-plus (inf true) y p q = absurd (below-zero p.none)
add-plus (inf false) nan p q = absurd (unfold is_nan in q.num.real)
add-plus (inf false) (inf true) p q = absurd (below-zero q.none)
add-plus (inf false) (inf false) p q = infinite
add-plus (inf false) (fin t n d) p q = infinite
add-plus (fin s m e) y p q = sum_of p q (add-num (record { fit = p.num.fit; finite = tt }) q.num)

add-nan : (x : Float) → x ⊕ nan ≡ nan
unfolding add
add-nan nan = refl
add-nan (inf s) = refl
add-nan (fin s m e) = refl

nan-add : (y : Float) → nan ⊕ y ≡ nan
unfolding add
nan-add y = refl

pub add-plain : (x y : Float) → Plain x → Plain y → Plain (x ⊕ y)
add-plain x y (inl e) q = inl (ap (λ (z : Float). z ⊕ y) e ∙ nan-add y)
add-plain x y (inr p) (inl e) = inl (ap (λ (z : Float). x ⊕ z) e ∙ add-nan x)
add-plain x y (inr p) (inr q) = inr (add-plus x y p q)

mul-none : (a k : ℕ) → a ≡ 0 → a * k ≡ 0
mul-none a k e = rw (e, zero-mul k)

pub div-plus : {x y : Float} → Plus x → Fin binary32 y → 0 < hi binary32 y → Plus (x ⊘ y)
div-plus {x} {y} p q h =
    from-plus (div-rounds p.num (num q) h (div-num p.num q h)) (mul-none (lo binary32 x) (unit binary32) p.none)

pub sqrt-plus : {x : Float} → Plus x → Plus (sqrt_of x)
sqrt-plus p = let r = sqrt-num p.num p.none in record { num = r.0; none = r.1 }
