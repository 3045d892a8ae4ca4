-- The laws of `abs`, `max`, `min` and `clamp`, for either format. A test of two numbers says which is the larger, so each answer comes with an
-- order (`max_rule`, `min_rule`, `clamp_rule`), and a law of the answer is that law of each operand where it is the answer. A NaN is below nothing,
-- so it is taken only where both operands are. Assumes nothing.
use Rattle.std.proofs.Common.{◌≡◌, ℕ, suc, ◌<◌, Bool, true, false, cond, not, ◌||◌, T, ◌⊎◌, sym, refl, ap, ◌∙◌, subst, inl, inr, zero-le, le_of_suc-le-suc, not-suc-le-zero, eq-or-lt_of_le, arith}
use native.Mathlib.Nat as Nat
use native.Mathlib.Nat.{le_step}
use lib.Ieee.{Float, nan, inf, fin, Format, lt, neg, is_nan, fits}
use lib.Ieee.Fits.{inf-fits, neg-fits}
use Rattle.floatlaws.specs.Value.{mag, hi, lo, Num, mag_le, one_side, both-sides}
use Rattle.floatlaws.specs.Order.{Le, Lt, of_lt, of_not_lt, le_refl, le_trans, of_sides, hi_neg, lo_neg}
use Rattle.floatlaws.specs.Finite.{Fin}
use Rattle.float.specs.Select.{abs, max, min, clamp}

-- ---- the size without the sign
pub abs_neg : (x : Float) → abs (neg x) ≡ abs x
unfolding abs neg
abs_neg nan = refl
abs_neg (inf s) = refl
abs_neg (fin s m e) = refl

-- a NaN exactly where x is one
pub abs-nan : (x : Float) → is_nan (abs x) ≡ is_nan x
unfolding abs is_nan
abs-nan nan = refl
abs-nan (inf s) = refl
abs-nan (fin s m e) = refl

-- it is x or -x
pub abs_one : (x : Float) → (abs x ≡ x) ⊎ (abs x ≡ neg x)
unfolding abs neg
abs_one nan = inl refl
abs_one (inf true) = inr refl
abs_one (inf false) = inl refl
abs_one (fin true m e) = inr refl
abs_one (fin false m e) = inl refl

pub abs-fits : (f : Format) (x : Float) → T (fits f x) → T (fits f (abs x))
abs-fits f x F = elim (abs_one x) [
  | inl e ↦ subst (λ (y : Float). T (fits f y)) (sym e) F
  | inr e ↦ subst (λ (y : Float). T (fits f y)) (sym e) (neg-fits f x F)
]

-- of the size of x, and not negative
pub abs-sides : (f : Format) (x : Float) → (hi f (abs x) ≡ mag f x) × (lo f (abs x) ≡ 0)
unfolding abs hi lo mag
abs-sides f nan = (refl, refl)
abs-sides f (inf s) = (refl, refl)
abs-sides f (fin s m e) = (refl, refl)

pub abs-num : {f : Format} {x : Float} → Num f x → Num f (abs x)
abs-num {f} {x} p = record { fit = abs-fits f x p.fit; real = subst (λ (b : Bool). T (not b)) (sym (abs-nan x)) p.real }

pub abs-fin : {f : Format} {x : Float} → Fin f x → Fin f (abs x)
abs-fin {f} {x = nan} p = absurd p.finite
abs-fin {f} {x = inf s} p = absurd p.finite
abs-fin {f} {x = fin s m e} p = record { fit = abs-fits f (fin s m e) p.fit; finite = unfold abs in tt }

-- |x| ≤ b is -b ≤ x ≤ b
module _ {f : Format} {x b : Float} where
  pub abs_le : Le f (neg b) x → Le f x b → Le f (abs x) b
  abs_le h k =
      let s = abs-sides f x in
      let m = both-sides f x in
      let c = hi_neg f b in
      let d = lo_neg f b in
      elim (one_side f x) [
        | inl z ↦ omega arith
        | inr z ↦ omega arith
      ]

  pub of_abs_le : Le f (abs x) b → Le f (neg b) x × Le f x b
  of_abs_le h =
      let s = abs-sides f x in
      let m = both-sides f x in
      (omega (arith, hi_neg f b, lo_neg f b), omega arith)

-- ---- the larger and the smaller of two
-- of two numbers, by what the test finds; a law of both operands is a law of the answer
module _ {f : Format} {a b : Float} (p : Num f a) (q : Num f b) (P : Float → Type 0) where
  pub max_rule : (Lt f a b → P b) → (Le f b a → P a) → P (max a b)
  unfolding max
  max_rule h k = go (lt a b) (is_nan a) p.real (of_lt p q) (of_not_lt p q)
    where
      go : (t n : Bool) → T (not n) → (T t → Lt f a b) → (T (not t) → Le f b a) → P (cond (t || n) b a)
      go t true r y z = absurd r
      go true false r y z = h (y tt)
      go false false r y z = k (z tt)

  pub min_rule : (Lt f b a → P b) → (Le f a b → P a) → P (min a b)
  unfolding min
  min_rule h k = go (lt b a) (is_nan a) p.real (of_lt q p) (of_not_lt q p)
    where
      go : (t n : Bool) → T (not n) → (T t → Lt f b a) → (T (not t) → Le f a b) → P (cond (t || n) b a)
      go t true r y z = absurd r
      go true false r y z = h (y tt)
      go false false r y z = k (z tt)

module _ {f : Format} {a b : Float} (p : Num f a) (q : Num f b) where
  pub max-num : Num f (max a b)
  max-num = max_rule p q (Num f) (λ h. q) (λ h. p)

  pub max-left : Le f a (max a b)
  max-left = max_rule p q (Le f a) (λ h. omega arith) (λ h. omega arith)

  pub max-right : Le f b (max a b)
  max-right = max_rule p q (Le f b) (λ h. omega arith) (λ h. omega arith)

  pub max_le : {c : Float} → Le f a c → Le f b c → Le f (max a b) c
  max_le {c} h k = max_rule p q (λ x. Le f x c) (λ l. k) (λ l. h)

  pub min-num : Num f (min a b)
  min-num = min_rule p q (Num f) (λ h. q) (λ h. p)

  pub min-left : Le f (min a b) a
  min-left = min_rule p q (λ x. Le f x a) (λ h. omega arith) (λ h. omega arith)

  pub min-right : Le f (min a b) b
  min-right = min_rule p q (λ x. Le f x b) (λ h. omega arith) (λ h. omega arith)

  pub min_ge : {c : Float} → Le f c a → Le f c b → Le f c (min a b)
  min_ge {c} h k = min_rule p q (Le f c) (λ l. k) (λ l. h)

module _ {f : Format} {a a' b b' : Float} (p : Num f a) (p' : Num f a') (q : Num f b) (q' : Num f b') where
  pub max_mono : Le f a a' → Le f b b' → Le f (max a b) (max a' b')
  max_mono h k = max_le p q (le_trans h (max-left p' q')) (le_trans k (max-right p' q'))

  pub min_mono : Le f a a' → Le f b b' → Le f (min a b) (min a' b')
  min_mono h k = min_ge p' q' (le_trans (min-left p q) h) (le_trans (min-right p q) k)

-- with a NaN on one side the other side is the answer
pub max-nan : (x : Float) → (max nan x ≡ x) × (max x nan ≡ x)
unfolding max lt is_nan
max-nan nan = (refl, refl)
max-nan (inf s) = (refl, refl)
max-nan (fin s m e) = (refl, refl)

pub min-nan : (x : Float) → (min nan x ≡ x) × (min x nan ≡ x)
unfolding min lt is_nan
min-nan nan = (refl, refl)
min-nan (inf s) = (refl, refl)
min-nan (fin s m e) = (refl, refl)

-- so the answer is a number where one side is
nan_or_num : {f : Format} (x : Float) → T (fits f x) → (x ≡ nan) ⊎ Num f x
nan_or_num nan F = inl refl
nan_or_num (inf s) F = inr (record { fit = F; real = unfold is_nan in tt })
nan_or_num (fin s m e) F = inr (record { fit = F; real = unfold is_nan in tt })

module _ {f : Format} {a : Float} (p : Num f a) where
  pub max-number : (b : Float) → T (fits f b) → Num f (max a b) × Num f (max b a)
  max-number b F = elim (nan_or_num {f = f} b F) [
    | inl e ↦ subst (λ (x : Float). Num f (max a x) × Num f (max x a)) (sym e)
        (subst (Num f) (sym (max-nan a).1) p, subst (Num f) (sym (max-nan a).0) p)
    | inr q ↦ (max-num p q, max-num q p)
  ]

  pub min-number : (b : Float) → T (fits f b) → Num f (min a b) × Num f (min b a)
  min-number b F = elim (nan_or_num {f = f} b F) [
    | inl e ↦ subst (λ (x : Float). Num f (min a x) × Num f (min x a)) (sym e)
        (subst (Num f) (sym (min-nan a).1) p, subst (Num f) (sym (min-nan a).0) p)
    | inr q ↦ (min-num p q, min-num q p)
  ]

-- ---- the least of a loop's terms, from +∞: m = min(m, g(i)) for i from 0 on. After n turns it is a number, at most each term that is one, and at
-- least what is at most all of these.
pub record Least (f : Format) (g : ℕ → Float) (n : ℕ) (m : Float) : Type 0 where
  pub num : Num f m
  pub le : (i : ℕ) → i < n → Num f (g i) → Le f m (g i)
  pub ge : (c : Float) → Num f c → ((i : ℕ) → i < n → Num f (g i) → Le f c (g i)) → Le f c m

-- nothing is above +∞
pub le_inf : {f : Format} {x : Float} → Num f x → Le f x (inf false)
unfolding hi lo mag
le_inf {f} {x} p = let b = both-sides f x in let m = mag_le f x p.fit in of_sides (omega arith) zero-le

pub least_start : (f : Format) (g : ℕ → Float) → Least f g 0 (inf false)
least_start f g = record {
  num = record { fit = inf-fits f false; real = unfold is_nan in tt };
  le = λ i h. absurd (not-suc-le-zero h);
  ge = λ c p h. le_inf p;
}

pub least_step : {f : Format} {g : ℕ → Float} {n : ℕ} {m : Float} → T (fits f (g n)) → Least f g n m → Least f g (suc n) (min m (g n))
least_step {f} {g} {n} {m} F L = elim (nan_or_num {f = f} (g n) F) [
  | inl e ↦ subst (Least f g (suc n)) (sym (ap (min m) e ∙ (min-nan m).1)) (record {
    num = L.num;
    le = λ i h p. elim (eq-or-lt_of_le (le_of_suc-le-suc h)) [
      | inl k ↦ absurd (no_num (subst (Num f) (ap g k ∙ e) p))
      | inr k ↦ L.le i k p
    ];
    ge = λ c p h. L.ge c p (λ i k. h i (le_step k));
  })
  | inr q ↦ record {
    num = min-num L.num q;
    le = λ i h p. elim (eq-or-lt_of_le (le_of_suc-le-suc h)) [
      | inl k ↦ subst (λ (j : ℕ). Le f (min m (g n)) (g j)) (sym k) (min-right L.num q)
      | inr k ↦ le_trans (min-left L.num q) (L.le i k p)
    ];
    ge = λ c p h. min_ge L.num q (L.ge c p (λ i k. h i (le_step k))) (h n (Nat.le_refl (suc n)) q);
  }
]
  where
    no_num : Num f nan → ⊥
    no_num p = unfold is_nan in p.real

-- ---- held to a range
-- by what the two tests find
pub clamp-low : (a b x : Float) → lt x a ≡ true → clamp a b x ≡ a
unfolding clamp
clamp-low a b x e = rw e

pub clamp-high : (a b x : Float) → lt x a ≡ false → lt b x ≡ true → clamp a b x ≡ b
unfolding clamp
clamp-high a b x e d = rw (e, d)

pub clamp-mid : (a b x : Float) → lt x a ≡ false → lt b x ≡ false → clamp a b x ≡ x
unfolding clamp
clamp-mid a b x e d = rw (e, d)

-- a NaN is left
pub clamp-nan : (a b : Float) → clamp a b nan ≡ nan
unfolding clamp lt
clamp-nan a nan = refl
clamp-nan a (inf s) = refl
clamp-nan a (fin s m e) = refl

module _ {f : Format} {a b x : Float} (A : Num f a) (B : Num f b) (p : Num f x) where
  pub clamp_rule : (P : Float → Type 0) → (Lt f x a → P a) → (Le f a x → Lt f b x → P b) → (Le f a x → Le f x b → P x) → P (clamp a b x)
  unfolding clamp
  clamp_rule P h k l = go (lt x a) (lt b x) (of_lt p A) (of_not_lt p A) (of_lt B p) (of_not_lt B p)
    where
      go : (u v : Bool) → (T u → Lt f x a) → (T (not u) → Le f a x) → (T v → Lt f b x) → (T (not v) → Le f x b) → P (cond u a (cond v b x))
      go true v i j m n = h (i tt)
      go false true i j m n = k (j tt) (m tt)
      go false false i j m n = l (j tt) (n tt)

  -- what is below x and b is below the answer, and so for above x and a, and with ≤
  pub clamp_gt : {c : Float} → Lt f c x → Lt f c b → Lt f c (clamp a b x)
  clamp_gt {c} h k = clamp_rule (Lt f c) (λ l. omega arith) (λ l m. k) (λ l m. h)

  pub clamp_lt : {c : Float} → Lt f x c → Lt f a c → Lt f (clamp a b x) c
  clamp_lt {c} h k = clamp_rule (λ y. Lt f y c) (λ l. k) (λ l m. omega arith) (λ l m. h)

  pub clamp_ge : {c : Float} → Le f c x → Le f c b → Le f c (clamp a b x)
  clamp_ge {c} h k = clamp_rule (Le f c) (λ l. omega arith) (λ l m. k) (λ l m. h)

  pub clamp_le : {c : Float} → Le f x c → Le f a c → Le f (clamp a b x) c
  clamp_le {c} h k = clamp_rule (λ y. Le f y c) (λ l. k) (λ l m. omega arith) (λ l m. h)

module _ {f : Format} {a b : Float} (A : Num f a) (B : Num f b) (ab : Le f a b) where
  pub clamp-num : {x : Float} → Num f x → Num f (clamp a b x)
  clamp-num p = clamp_rule A B p (Num f) (λ l. A) (λ l m. B) (λ l m. p)

  pub clamp_range : {x : Float} → Num f x → Le f a (clamp a b x) × Le f (clamp a b x) b
  clamp_range {x} p = clamp_rule A B p (λ y. Le f a y × Le f y b) (λ l. (le_refl f a, ab)) (λ l m. (ab, le_refl f b)) (λ l m. (l, m))

  pub clamp_mono : {x y : Float} → Num f x → Num f y → Le f x y → Le f (clamp a b x) (clamp a b y)
  clamp_mono {x} {y} p q h =
      clamp_rule A B p (λ z. Le f z (clamp a b y))
      (λ l. (clamp_range q).0)
      (λ l m. clamp_ge A B q (omega arith) (le_refl f b))
      (λ l m. clamp_ge A B q h m)
