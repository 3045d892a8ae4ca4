-- The roots keep the order, and the square root of what is not negative is a number that is not negative. A root is a zero, +∞ or the nearest float
-- of its number (`Plain`), and of two numbers the larger one's nearest root is no smaller (`root_mono`). Assumes nothing.
use Rattle.std.proofs.Common.{◌≡◌, ℕ, zero, suc, ◌+◌, ◌-◌, ◌*◌, ◌/◌, ◌^◌, ◌<◌, ◌≤◌, Bool, true, false, not, T, ◌⊎◌, ℤ, sym, refl, ◌∙◌, subst, inl, inr, le_trans, le_of_eq, lt_of_lt_of_le, lt_of_le_of_lt, lt_irrefl, not-le_of_lt, arith}
use lib.Ieee.{Float, nan, inf, fin, binary32, up, down, size, odd, neg, is_nan, fits}
use lib.Ieee.Fits.{inf-fits}
use Rattle.floatlaws.specs.Value.{limit, big, mag, hi, lo, negative, Num, one_side, both-sides, overflow_le_big, overflow-pos}
use Rattle.floatlaws.specs.Order.{Le, sides, neg-num, hi_neg, lo_neg}
use Rattle.floatlaws.specs.Finite.{Fin, num, fin-under, fin_of, mag-zero}
use Rattle.floatlaws.specs.Interval.{In, within, plain}
use Rattle.float.specs.Root.{iroot, root_of_units, sqrt_of, cbrt_of}
use Rattle.float.specs.Nearest.{NearestRoot}
use Rattle.float.proofs.Nearest.{finite-above, root_mono, sqrt_is, cbrt_is}
use Rattle.float.proofs.Select.{le_inf}

-- r is the n-th root of x, neither of them negative
data Plain (n : ℕ) (x r : Float) : Type 0 where
  none : Num binary32 r → hi binary32 x ≡ 0 → hi binary32 r ≡ 0 → lo binary32 r ≡ 0 → Plain n x r
  top : hi binary32 x ≡ big binary32 → r ≡ inf false → Plain n x r
  some : Fin binary32 x → 0 < hi binary32 x → NearestRoot n false (hi binary32 x) r → Plain n x r

-- what the sign false says of the sides
sides_of : (r : Float) → negative r ≡ false → (hi binary32 r ≡ mag binary32 r) × (lo binary32 r ≡ 0)
sides_of r e =
    let z = plain binary32 r (subst (λ (b : Bool). T (not b)) (sym e) tt) in
    let m = both-sides binary32 r in
    omega arith

big-pos : 0 < big binary32
big-pos = lt_of_lt_of_le (overflow-pos binary32) (overflow_le_big binary32)

under-big : {x : Float} → Fin binary32 x → big binary32 ≤ hi binary32 x → ⊥
unfolding limit
under-big {x} p l =
    lt_irrefl (big binary32)
    (lt_of_le_of_lt l (lt_of_le_of_lt (first (hi binary32 x) (lo binary32 x)) (lt_of_lt_of_le (fin-under p) (overflow_le_big binary32))))
  where
    first : (a b : ℕ) → a ≤ a + b
    first a b = omega arith

limit-pos : 0 < limit binary32
unfolding limit
limit-pos = overflow-pos binary32

inf-num : Num binary32 (inf false)
inf-num = record { fit = inf-fits binary32 false; real = unfold is_nan in tt }

plain-num : {n : ℕ} {x r : Float} → Plain n x r → Num binary32 r × (lo binary32 r ≡ 0)
plain-num (none p a b c) = (p, c)
plain-num (top a e) = subst (λ (z : Float). Num binary32 z × (lo binary32 z ≡ 0)) (sym e) (inf-num, unfold lo in refl)
plain-num {r = r} (some p h N) = (num N.is, (sides_of r N.sign).1)

plain_mono : {n : ℕ} {x y r s : Float} → Plain n x r → Plain n y s → hi binary32 x ≤ hi binary32 y → Le binary32 r s
plain_mono (none p a b c) Q h = let q = (plain-num Q).1 in omega arith
plain_mono (top a e) (none p b c d) h = absurd (not-le_of_lt big-pos (le_trans (le_of_eq (sym a)) (le_trans h (le_of_eq b))))
plain_mono {r = r} (top a e) (top b d) h = subst (Le binary32 r) (sym d) (le_inf (subst (Num binary32) (sym e) inf-num))
plain_mono (top a e) (some p k N) h = absurd (under-big p (le_trans (le_of_eq (sym a)) h))
plain_mono (some p k N) (none q b c d) h = absurd (lt_irrefl 0 (lt_of_lt_of_le k (le_trans h (le_of_eq b))))
plain_mono {r = r} (some p k N) (top b d) h = subst (Le binary32 r) (sym d) (le_inf (num N.is))
plain_mono {r = r} {s = s} (some p k N) (some q l M) h =
    let a = sides_of r N.sign in
    let b = sides_of s M.sign in
    let m = root_mono N M h in
    omega arith

-- ---- a root by its cases is such
module _ (n : ℕ) (root : Float → Float) (at-inf : root (inf false) ≡ inf false) (at_zero : (s : Bool) (e : ℤ) → root (fin s 0 e) ≡ fin s 0 e)
    (at_value : (m : ℕ) (e : ℤ) → T (fits binary32 (fin false (suc m) e)) → NearestRoot n false (mag binary32 (fin false (suc m) e))
    (root (fin false (suc m) e))) where
  plain-root : {x : Float} → Num binary32 x → lo binary32 x ≡ 0 → Plain n x (root x)
  plain-root {x = nan} p z = absurd (unfold is_nan in p.real)
  plain-root {x = inf true} p z = absurd (lt_irrefl 0 (lt_of_lt_of_le big-pos (le_of_eq (unfold lo mag in z))))
  plain-root {x = inf false} p z = top (unfold hi mag in refl) at-inf
  plain-root {x = fin s zero e} p z =
      let m = mag-zero binary32 s e in
      let b = both-sides binary32 (fin s 0 e) in
      let h : hi binary32 (fin s 0 e) ≡ 0 = omega arith in
      subst (Plain n (fin s 0 e)) (sym (at_zero s e)) (none p h h z)
  plain-root {x = fin true (suc m) e} p z = absurd (lt_irrefl 0 (lt_of_lt_of_le (finite-above true m e p.fit).1 (le_of_eq (unfold lo in z))))
  plain-root {x = fin false (suc m) e} p z =
      let q = finite-above false m e p.fit in
      let h = (sides_of (fin false (suc m) e) refl).0 in
      some q.0 (subst (λ (k : ℕ). 0 < k) (sym h) q.1)
      (subst (λ (k : ℕ). NearestRoot n false k (root (fin false (suc m) e))) (sym h) (at_value m e p.fit))

sqrt-plain : {x : Float} → Num binary32 x → lo binary32 x ≡ 0 → Plain 2 x (sqrt_of x)
unfolding sqrt_of
sqrt-plain p z = plain-root 2 sqrt_of refl (λ s e. refl) (λ m e F. sqrt_is (fin false (suc m) e) F) p z

cbrt-plain : {x : Float} → Num binary32 x → lo binary32 x ≡ 0 → Plain 3 x (cbrt_of x)
unfolding cbrt_of
cbrt-plain p z = plain-root 3 cbrt_of refl (λ s e. refl) (λ m e F. cbrt_is (fin false (suc m) e) F) p z

-- ---- the square root of what is not negative
pub sqrt-num : {x : Float} → Num binary32 x → lo binary32 x ≡ 0 → Num binary32 (sqrt_of x) × (lo binary32 (sqrt_of x) ≡ 0)
sqrt-num p z = plain-num (sqrt-plain p z)

pub sqrt_mono : {x y : Float} → Num binary32 x → Num binary32 y → lo binary32 x ≡ 0 → Le binary32 x y → Le binary32 (sqrt_of x) (sqrt_of y)
sqrt_mono p q z h =
    let s = sides h in
    plain_mono (sqrt-plain p z) (sqrt-plain q (omega arith)) s.0

pub sqrt-fin : {x : Float} → Fin binary32 x → lo binary32 x ≡ 0 → Fin binary32 (sqrt_of x)
sqrt-fin {x} p z = go (sqrt-plain (num p) z)
  where
    go : {r : Float} → Plain 2 x r → Fin binary32 r
    go (none q a b c) = fin_of q (lt_of_le_of_lt (le_of_eq b) limit-pos) (lt_of_le_of_lt (le_of_eq c) limit-pos)
    go (top a e) = absurd (under-big p (le_of_eq (sym a)))
    go (some q h N) = N.is

-- an interval, as `Interval` has them
pub sqrt_in : {a b x : Float} → In binary32 a b x → T (not (negative a)) → In binary32 (sqrt_of a) (sqrt_of b) (sqrt_of x)
sqrt_in {a} {b} {x} p t =
    let z = plain binary32 a t in
    let s = sides p.low in
    let u = sides p.high in
    let x0 : lo binary32 x ≡ 0 = omega arith in
    let b0 : lo binary32 b ≡ 0 = omega arith in
    within (sqrt-fin p.from z) (sqrt-fin p.to b0) (sqrt-num (num p.is) x0).0
    (sqrt_mono (num p.from) (num p.is) z p.low)
    (sqrt_mono (num p.is) (num p.to) x0 p.high)

-- ---- the cube root of any number: it keeps the sign, so the order of what is below zero is that of the sizes, reversed
odd-neg : (d : ℕ) (s : Bool) (q k l : ℕ) → odd d (not s) q k l ≡ neg (odd d s q k l)
unfolding odd neg
odd-neg d s zero k l = refl
odd-neg d s (suc q) k l = refl

root-neg : (n : ℕ) (s : Bool) (u : ℕ) → root_of_units n (not s) u ≡ neg (root_of_units n s u)
unfolding root_of_units
root-neg n s u =
    let r = iroot n (u * 2 ^ (24 * n + 1)) in
    let d = size r - 25 in
    odd-neg 25 s ((r / 2 ^ d + 1) / 2) (d + 126 - 150 / n) 149

neg-neg : (r : Float) → neg (neg r) ≡ r
unfolding neg
neg-neg nan = refl
neg-neg (inf true) = refl
neg-neg (inf false) = refl
neg-neg (fin true m e) = refl
neg-neg (fin false m e) = refl

pub cbrt-neg : (x : Float) → cbrt_of (neg x) ≡ neg (cbrt_of x)
unfolding cbrt_of neg mag
cbrt-neg nan = refl
cbrt-neg (inf s) = refl
cbrt-neg (fin s zero e) = refl
cbrt-neg (fin s (suc m) e) = root-neg 3 s (suc m * up e * 2 ^ 149 / down e)

-- of the sign of x, with the sides of its root and of that of -x
pub cbrt-num : {x : Float} → Num binary32 x
    → Num binary32 (cbrt_of x) × ((lo binary32 x ≡ 0 → lo binary32 (cbrt_of x) ≡ 0) × (hi binary32 x ≡ 0 → hi binary32 (cbrt_of x) ≡ 0))
cbrt-num {x} p = (
  elim (one_side binary32 x) [
    | inl z ↦ back (cbrt_of x) (plain-num (below z)).0
    | inr z ↦ (plain-num (cbrt-plain p z)).0
  ],
  (λ z. (plain-num (cbrt-plain p z)).1, λ z. sym (lo_neg binary32 (cbrt_of x)) ∙ (plain-num (below z)).1),
)
  where
    below : hi binary32 x ≡ 0 → Plain 3 (neg x) (neg (cbrt_of x))
    below z = subst (Plain 3 (neg x)) (cbrt-neg x) (cbrt-plain (neg-num p) (lo_neg binary32 x ∙ z))

    back : (r : Float) → Num binary32 (neg r) → Num binary32 r
    back r q = subst (Num binary32) (neg-neg r) (neg-num q)

pub cbrt_mono : {x y : Float} → Num binary32 x → Num binary32 y → Le binary32 x y → Le binary32 (cbrt_of x) (cbrt_of y)
cbrt_mono {x} {y} p q h = go (one_side binary32 x) (one_side binary32 y)
  where
    up : lo binary32 x ≡ 0 → lo binary32 y ≡ 0 → Le binary32 (cbrt_of x) (cbrt_of y)
    up a b = plain_mono (cbrt-plain p a) (cbrt-plain q b) (sides h).0

    down : hi binary32 x ≡ 0 → hi binary32 y ≡ 0 → Le binary32 (cbrt_of x) (cbrt_of y)
    down a b =
        let l : hi binary32 (neg y) ≤ hi binary32 (neg x) =
        le_trans (le_of_eq (hi_neg binary32 y)) (le_trans (sides h).1 (le_of_eq (sym (hi_neg binary32 x)))) in
        let m = plain_mono (cbrt-plain (neg-num q) (lo_neg binary32 y ∙ b)) (cbrt-plain (neg-num p) (lo_neg binary32 x ∙ a)) l in
        let k = rw (cbrt-neg y, cbrt-neg x) at m in
        omega (arith, hi_neg binary32 (cbrt_of x), lo_neg binary32 (cbrt_of x), hi_neg binary32 (cbrt_of y), lo_neg binary32 (cbrt_of y))

    go : (hi binary32 x ≡ 0) ⊎ (lo binary32 x ≡ 0) → (hi binary32 y ≡ 0) ⊎ (lo binary32 y ≡ 0) → Le binary32 (cbrt_of x) (cbrt_of y)
    go (inr a) o = let s = sides h in up a (omega arith)
    go (inl a) (inl b) = down a b
    go (inl a) (inr b) = let c = (cbrt-num p).1.1 a in let d = (cbrt-num q).1.0 b in omega arith
