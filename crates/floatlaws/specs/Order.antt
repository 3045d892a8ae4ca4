-- The order of the values of a format that are no NaN, infinities included: `Le f x y` and `Lt f x y`, as the order of what they are worth. They
-- are records, so that x and y are inferred from a hypothesis, and `omega arith` proves them and reads them. `of_le` and `to_le` go between `Le`
-- and the test `le` of a program, and so for `lt` and `eq`. Assumes nothing.
use Rattle.std.specs.Prelude.{◌≡◌, refl, ◌⊎◌, ℕ, ◌+◌, ◌*◌, ◌^◌, ◌≤◌, ◌<◌, Bool, true, false, not, cond, ℤ, Float}
use Rattle.std.proofs.Math.Path.{sym, ap}
use Rattle.std.proofs.Common.{◌∙◌, inl, inr, zero-mul, mul_assoc, arith, pow-add, leb→le, le→leb, ltb→lt, lt→ltb, nltb→le, eqb→eq}
use Rattle.std.proofs.Math.Nat.{mul_right_comm, eq_of_mul-eq-mul_right}
use Rattle.std.proofs.Math.Decide.{dec_le}
use Rattle.std.proofs.Math.Dec.{T, nleb→lt}
use Rattle.std.specs.Float.{nan, inf, fin, Format}
use Rattle.std.specs.Float.Ieee.{binary32, binary64, up, down, lt, eq, le, neg, is_nan, fits}
use Rattle.std.specs.Float.Ieee.Fits.{eq→eqb, down_pos, neg-fits, fits_widens}
use Rattle.std.specs.Float.Ieee.Scale.{finite}
use Rattle.floatlaws.specs.Value.{hi, lo, mag, Num, mag_is, one_side, lt_is, eq_is, le_is}

pub record Le (f : Format) (x y : Float) : Type 0 where
  pub le : hi f x + lo f y ≤ hi f y + lo f x

pub record Lt (f : Format) (x y : Float) : Type 0 where
  pub lt : hi f x + lo f y < hi f y + lo f x

-- the same number: -0 and +0 are
pub record Same (f : Format) (x y : Float) : Type 0 where
  pub hi : hi f x ≡ hi f y
  pub lo : lo f x ≡ lo f y

-- ---- a program's tests
module _ {f : Format} {x y : Float} (p : Num f x) (q : Num f y) where
  pub of_le : T (le x y) → Le f x y
  of_le t = record { le = leb→le (hi f x + lo f y) (hi f y + lo f x) (rw (le_is p q) at t) }

  pub to_le : Le f x y → T (le x y)
  to_le h = rw (le_is p q) (le→leb (hi f x + lo f y) (hi f y + lo f x) h.le)

  pub of_not_le : T (not (le x y)) → Lt f y x
  of_not_le t = record { lt = nleb→lt (hi f x + lo f y) (hi f y + lo f x) (rw (le_is p q) at t) }

  pub of_lt : T (lt x y) → Lt f x y
  of_lt t = record { lt = ltb→lt (hi f x + lo f y) (hi f y + lo f x) (rw (lt_is p q) at t) }

  pub to_lt : Lt f x y → T (lt x y)
  to_lt h = rw (lt_is p q) (lt→ltb (hi f x + lo f y) (hi f y + lo f x) h.lt)

  pub of_not_lt : T (not (lt x y)) → Le f y x
  of_not_lt t = record { le = nltb→le (hi f x + lo f y) (hi f y + lo f x) (rw (lt_is p q) at t) }

-- ---- the laws of the order
pub le_refl : (f : Format) (x : Float) → Le f x x
le_refl f x = omega arith

pub le_trans : {f : Format} {x y z : Float} → Le f x y → Le f y z → Le f x z
le_trans h k = omega arith

pub lt_le_trans : {f : Format} {x y z : Float} → Lt f x y → Le f y z → Lt f x z
lt_le_trans h k = omega arith

pub le_lt_trans : {f : Format} {x y z : Float} → Le f x y → Lt f y z → Lt f x z
le_lt_trans h k = omega arith

pub le_of_lt : {f : Format} {x y : Float} → Lt f x y → Le f x y
le_of_lt h = omega arith

pub not-both : {f : Format} {x y : Float} → Lt f x y → Le f y x → ⊥
not-both h k = omega arith

pub total : (f : Format) (x y : Float) → Le f x y ⊎ Lt f y x
total f x y = go (dec_le (hi f x + lo f y) (hi f y + lo f x))
  where
    go : Dec (hi f x + lo f y ≤ hi f y + lo f x) → Le f x y ⊎ Lt f y x
    go (yes h) = inl (omega arith)
    go (no h) = inr (omega arith)

-- ---- by the two sides
pub sides : {f : Format} {x y : Float} → Le f x y → (hi f x ≤ hi f y) × (lo f y ≤ lo f x)
sides {f} {x} {y} h = go (one_side f x) (one_side f y)
  where
    go : (hi f x ≡ 0) ⊎ (lo f x ≡ 0) → (hi f y ≡ 0) ⊎ (lo f y ≡ 0) → (hi f x ≤ hi f y) × (lo f y ≤ lo f x)
    go (inl a) (inl b) = omega arith
    go (inl a) (inr b) = omega arith
    go (inr a) (inl b) = omega arith
    go (inr a) (inr b) = omega arith

-- what is above zero is not below it
pub above-none : (f : Format) (x : Float) → 0 < hi f x → lo f x ≡ 0
above-none f x h = go (one_side f x)
  where
    go : (hi f x ≡ 0) ⊎ (lo f x ≡ 0) → lo f x ≡ 0
    go (inl z) = omega arith
    go (inr z) = z

pub of_sides : {f : Format} {x y : Float} → hi f x ≤ hi f y → lo f y ≤ lo f x → Le f x y
of_sides h k = omega arith

pub same : {f : Format} {x y : Float} → Le f x y → Le f y x → Same f x y
same h k = let a = sides h in let b = sides k in omega arith

module _ {f : Format} {x y : Float} (p : Num f x) (q : Num f y) where
  pub of_eq : T (eq x y) → Same f x y
  of_eq t = let e = eqb→eq (hi f x + lo f y) (hi f y + lo f x) (rw (eq_is p q) at t) in same (omega arith) (omega arith)

  pub to_eq : Same f x y → T (eq x y)
  to_eq h = rw (eq_is p q) (let e : hi f x + lo f y ≡ hi f y + lo f x = omega arith in eq→eqb e)

-- ---- negation
pub neg-num : {f : Format} {x : Float} → Num f x → Num f (neg x)
neg-num {f} {x} p = record { fit = neg-fits f x p.fit; real = go x p.real }
  where
    go : (x : Float) → T (not (is_nan x)) → T (not (is_nan (neg x)))
    go nan t = absurd (unfold is_nan in t)
    go (inf s) t = unfold neg is_nan in tt
    go (fin s m e) t = unfold neg is_nan in tt

pub hi_neg : (f : Format) (x : Float) → hi f (neg x) ≡ lo f x
unfolding hi lo mag neg
hi_neg f nan = refl
hi_neg f (inf true) = refl
hi_neg f (inf false) = refl
hi_neg f (fin true m e) = refl
hi_neg f (fin false m e) = refl

pub lo_neg : (f : Format) (x : Float) → lo f (neg x) ≡ hi f x
unfolding hi lo mag neg
lo_neg f nan = refl
lo_neg f (inf true) = refl
lo_neg f (inf false) = refl
lo_neg f (fin true m e) = refl
lo_neg f (fin false m e) = refl

pub neg_anti : {f : Format} {x y : Float} → Le f x y → Le f (neg y) (neg x)
neg_anti {f} {x} {y} h = let a = hi_neg f x in let b = hi_neg f y in let c = lo_neg f x in let d = lo_neg f y in omega arith

pub neg_lt : {f : Format} {x y : Float} → Lt f x y → Lt f (neg y) (neg x)
neg_lt {f} {x} {y} h = let a = hi_neg f x in let b = hi_neg f y in let c = lo_neg f x in let d = lo_neg f y in omega arith

-- ---- a binary32 as a binary64: the same float, in the same order
pub widen-num : {x : Float} → Num binary32 x → Num binary64 x
widen-num {x} p = record { fit = fits_widens x p.fit; real = p.real }

pub widen_le : {x y : Float} → Num binary32 x → Num binary32 y → Le binary32 x y → Le binary64 x y
widen_le p q h = of_le (widen-num p) (widen-num q) (to_le p q h)

-- in the units of binary64, which are 2 ^ -925 of those of binary32
pub widen-sides : (x : Float) → T (fits binary32 x) → T (finite x)
    → (hi binary64 x ≡ hi binary32 x * 2 ^ 925) × (lo binary64 x ≡ lo binary32 x * 2 ^ 925)
widen-sides nan F t = absurd t
widen-sides (inf s) F t = absurd t
widen-sides (fin s m e) F t = unfold hi lo in go (mag binary64 (fin s m e)) (mag binary32 (fin s m e)) (2 ^ 925) s (widen-mag s m e F)
  where
    widen-mag : (s : Bool) (m : ℕ) (e : ℤ) → T (fits binary32 (fin s m e)) → mag binary64 (fin s m e) ≡ mag binary32 (fin s m e) * 2 ^ 925
    widen-mag s m e F =
        let M = mag binary32 (fin s m e) in
        eq_of_mul-eq-mul_right (down e) (down_pos e) (mag binary64 (fin s m e)) (M * 2 ^ 925)
        (mag_is binary64 s m e (fits_widens (fin s m e) F)
        ∙ ap (λ (z : ℕ). m * up e * z) (pow-add 2 149 925)
        ∙ sym (mul_assoc (m * up e) (2 ^ 149) (2 ^ 925))
        ∙ ap (λ (z : ℕ). z * 2 ^ 925) (sym (mag_is binary32 s m e F))
        ∙ mul_right_comm M (down e) (2 ^ 925))

    go : (a b k : ℕ) (s : Bool) → a ≡ b * k → (cond s 0 a ≡ cond s 0 b * k) × (cond s a 0 ≡ cond s b 0 * k)
    go a b k true h = (sym (zero-mul k), h)
    go a b k false h = (h, sym (zero-mul k))
