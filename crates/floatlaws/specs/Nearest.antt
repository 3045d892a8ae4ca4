-- No value of the format is nearer to the exact number than the rounded one (`nearest`): what `round` means, said without its steps, of every
-- operation's result. The rounded number is q * 2 ^ k units and at most half of 2 ^ k away (`near-err`), and from q * 2 ^ k the next value of the
-- format is a whole 2 ^ k away (`spaced_up`, `spaced_down`). Assumes nothing.
use Rattle.std.specs.Prelude.{◌≡◌, refl, ◌⊎◌, ℕ, zero, suc, ◌+◌, ◌-◌, ◌*◌, ◌^◌, ◌≤◌, ◌<◌, Bool, true, false, not, T, leb, Float}
use Rattle.std.proofs.Common.{sym, ap, ◌∙◌, subst, inl, inr, zero-le, le_refl, le_trans, le_of_eq, le_of_lt, le_of_suc-le-suc, lt_of_lt_of_le, lt_of_le_of_lt, lt_irrefl, eq-or-lt_of_le, add-mul, mul_comm, mul_assoc, mul-le-mul_right, lt_of_mul-lt-mul_right, sub-add_cancel, sub-eq-zero_of_le, zero-mul, one-mul, suc-mul, add-le-add, add-one, arith, leb→le, pow-add, pow_pos, pow_mono, shl_lt}
use Rattle.std.proofs.Math.Decide.{dec_le}
use Rattle.std.proofs.Math.Dec.{nleb→lt}
use Rattle.std.specs.Float.{nan, inf, fin, Format}
use Rattle.std.specs.Float.Ieee.{prec}
use Rattle.std.specs.Float.Ieee.Fits.{two, two-le_pos}
use Rattle.std.specs.Float.Ieee.Scale.{overflow}
use Rattle.floatlaws.specs.Value.{limit, mag, hi, lo, shape, mag-shape, one_side, each-side}
use Rattle.floatlaws.specs.Near.{near, near-zero, Rounds}
use Rattle.floatlaws.specs.Finite.{Fin, fin-under}
use Rattle.floatlaws.specs.Error.{Kept, near-kept}

-- ---- what the format holds: c * 2 ^ i units, with c of at most `prec` digits
pub record Held (f : Format) (b : ℕ) : Type 0 where
  pub c : ℕ
  pub i : ℕ
  pub small : c < 2 ^ prec f
  pub is : b ≡ c * 2 ^ i

pub held : {f : Format} {y : Float} → Fin f y → Held f (mag f y)
held {f} {y = nan} p = absurd p.finite
held {f} {y = inf s} p = absurd p.finite
held {f} {y = fin s m e} p = let g = shape f s m e p.fit in record { c = m; i = g.j; small = g.small; is = mag-shape f s m e p.fit }

pub held-zero : (f : Format) → Held f 0
held-zero f = record { c = 0; i = 0; small = pow_pos (prec f); is = refl }

-- c * 2 ^ i is a multiple of 2 ^ k, or is below 2 ^ (prec - 1 + k)
coarse : (c i k : ℕ) → k ≤ i → c * 2 ^ i ≡ c * 2 ^ (i - k) * 2 ^ k
coarse c i k h =
    ap (λ (x : ℕ). c * 2 ^ x) (sym (sub-add_cancel h)) ∙ ap (λ (x : ℕ). c * x) (pow-add 2 (i - k) k) ∙ sym (mul_assoc c (2 ^ (i - k)) (2 ^ k))

fine : (f : Format) (c i k : ℕ) → c < 2 ^ prec f → i < k → c * 2 ^ i < 2 ^ (prec f - 1) * 2 ^ k
fine f c i k h l =
    lt_of_lt_of_le (shl_lt (prec f) i h)
    (le_trans (pow_mono (one_less (prec f) i k (two-le_pos (prec f) (two f)) l)) (le_of_eq (pow-add 2 (prec f - 1) k)))
  where
    one_less : (p i k : ℕ) → 0 < p → i < k → p + i ≤ p - 1 + k
    one_less p i k h l = omega arith

module _ (f : Format) (k b : ℕ) (H : Held f b) where
  pub spaced_up : (q : ℕ) → (0 < k → 2 ^ (prec f - 1) ≤ q) → q * 2 ^ k < b → (q + 1) * 2 ^ k ≤ b
  spaced_up q h l = go (leb k H.i) (leb→le k H.i) (nleb→lt k H.i)
    where
      go : (x : Bool) → (T x → k ≤ H.i) → (T (not x) → H.i < k) → (q + 1) * 2 ^ k ≤ b
      go true y z =
          let e : b ≡ H.c * 2 ^ (H.i - k) * 2 ^ k = H.is ∙ coarse H.c H.i k (y tt) in
          le_trans (mul-le-mul_right (2 ^ k) (le_trans (le_of_eq (add-one q)) (lt_of_mul-lt-mul_right (2 ^ k) (lt_of_lt_of_le l (le_of_eq e)))))
          (le_of_eq (sym e))
      go false y z =
          absurd (lt_irrefl b (lt_of_lt_of_le (lt_of_le_of_lt (le_of_eq H.is) (fine f H.c H.i k H.small (z tt)))
          (le_trans (mul-le-mul_right (2 ^ k) (h (lt_of_le_of_lt zero-le (z tt)))) (le_of_lt l))))

  pub spaced_down : (p : ℕ) → (0 < k → 2 ^ (prec f - 1) ≤ p) → b < suc p * 2 ^ k → b ≤ p * 2 ^ k
  spaced_down p h l = go (leb k H.i) (leb→le k H.i) (nleb→lt k H.i)
    where
      go : (x : Bool) → (T x → k ≤ H.i) → (T (not x) → H.i < k) → b ≤ p * 2 ^ k
      go true y z =
          let e : b ≡ H.c * 2 ^ (H.i - k) * 2 ^ k = H.is ∙ coarse H.c H.i k (y tt) in
          le_trans (le_of_eq e) (mul-le-mul_right (2 ^ k) (le_of_suc-le-suc (lt_of_mul-lt-mul_right (2 ^ k) (lt_of_le_of_lt (le_of_eq (sym e)) l))))
      go false y z =
          le_of_lt (lt_of_lt_of_le (lt_of_le_of_lt (le_of_eq H.is) (fine f H.c H.i k H.small (z tt)))
          (mul-le-mul_right (2 ^ k) (h (lt_of_le_of_lt zero-le (z tt)))))

-- ---- the distance of two numbers
abbrev pub dist : ℕ → ℕ → ℕ
dist a b = (a - b) + (b - a)

-- of two floats' values, in units
abbrev pub Apart : Format → Float → Float → ℕ
Apart f x y = dist (hi f x + lo f y) (hi f y + lo f x)

-- ---- of a number that is not negative
module _ (f : Format) (a c b : ℕ) (C : 0 < c) (h : near f a c < overflow f) (H : Held f b) where
  -- from above: b is at least one step up
  above : near f a c < b → dist (near f a c * c) a ≤ dist (b * c) a
  above l =
      let K = near-kept f a c C h in
      let w : near f a c * c + c * 2 ^ K.k ≤ b * c =
      le_trans (le_of_eq (ap (λ (x : ℕ). x * c + c * 2 ^ K.k) K.is ∙ step K.q (2 ^ K.k) c))
      (mul-le-mul_right c (spaced_up f K.k b H K.q K.full (subst (λ (x : ℕ). x < b) K.is l))) in
      let e = K.err in
      omega arith
    where
      step : (q t c : ℕ) → q * t * c + c * t ≡ (q + 1) * t * c
      step q t c =
          ap (λ (x : ℕ). q * t * c + x) (mul_comm c t)
          ∙ sym (ap (λ (x : ℕ). x * c) (add-mul q 1 t ∙ ap (λ (x : ℕ). q * t + x) (one-mul t)) ∙ add-mul (q * t) t c)

  -- from below, where the number is below the rounded one: then q is above the least that is kept, and b is at least one step down
  below : b < near f a c → a < near f a c * c → dist (near f a c * c) a ≤ dist (b * c) a
  below l m = go K.q refl
    where
      K : Kept f a c
      K = near-kept f a c C h

      t : ℕ
      t = 2 ^ K.k

      none : (q : ℕ) → K.q ≡ q → q ≡ 0 → ⊥
      none q e z = lt_irrefl 0 (lt_of_le_of_lt zero-le (lt_of_lt_of_le l (le_of_eq (K.is ∙ ap (λ (x : ℕ). x * t) (e ∙ z) ∙ zero-mul t))))

      more : (q p : ℕ) → K.q ≡ suc p → 0 < K.k → 2 ^ (prec f - 1) ≤ p
      more q p e k =
          le_of_suc-le-suc (subst (λ (x : ℕ). 2 ^ (prec f - 1) < x) e
          (lt_of_mul-lt-mul_right (c * t)
          (lt_of_le_of_lt (le_trans (le_of_eq (mul_comm (2 ^ (prec f - 1)) (c * t))) (K.least k))
          (lt_of_lt_of_le m (le_of_eq (ap (λ (x : ℕ). x * c) K.is ∙ mul_assoc K.q t c ∙ ap (λ (x : ℕ). K.q * x) (mul_comm t c)))))))

      step : (p t c : ℕ) → p * t * c + c * t ≡ suc p * t * c
      step p t c = ap (λ (x : ℕ). p * t * c + x) (mul_comm c t) ∙ sym (ap (λ (x : ℕ). x * c) (suc-mul p t) ∙ add-mul (p * t) t c)

      go : (q : ℕ) → K.q ≡ q → dist (near f a c * c) a ≤ dist (b * c) a
      go zero e = absurd (none zero e refl)
      go (suc p) e =
          let w : b * c + c * t ≤ near f a c * c =
          le_trans (add-le-add (mul-le-mul_right c
          (spaced_down f K.k b H p (more (suc p) p e) (subst (λ (x : ℕ). b < x * t) e (lt_of_lt_of_le l (le_of_eq K.is))))) (le_refl (c * t)))
          (le_of_eq (step p t c ∙ ap (λ (x : ℕ). x * t * c) (sym e) ∙ ap (λ (x : ℕ). x * c) (sym K.is))) in
          let r = K.err in
          omega arith

  near-nearest : dist (near f a c * c) a ≤ dist (b * c) a
  near-nearest = go (dec_le b (near f a c)) (dec_le (near f a c * c) a)
    where
      go : Dec (b ≤ near f a c) → Dec (near f a c * c ≤ a) → dist (near f a c * c) a ≤ dist (b * c) a
      go (no l) m = above (omega arith)
      go (yes l) (yes m) = let w = mul-le-mul_right c l in omega arith
      go (yes l) (no m) = elim (eq-or-lt_of_le l) [
        | inl e ↦ le_of_eq (ap (λ (x : ℕ). dist (x * c) a) (sym e))
        | inr k ↦ below k (omega arith)
      ]

-- ---- of a signed one, (P - N) / C units: its distance from x is that of hi x * C + N and P + lo x * C, divided by C
abbrev pub Distance : (f : Format) → Float → ℕ → ℕ → ℕ → ℕ
Distance f x P N C = dist (hi f x * C + N) (P + lo f x * C)

-- with P or N taken away on both sides
along : (x a P N l : ℕ) → P ≡ a + N → l ≡ 0 → dist (x + N) (P + l) ≡ dist x a
along x a P N l e z = omega arith

back : (x a P N h : ℕ) → N ≡ a + P → h ≡ 0 → dist (h + N) (P + x) ≡ dist x a
back x a P N h e z = omega arith

across : (a P N h l : ℕ) → P ≡ a + N → h ≡ 0 → dist 0 a ≤ dist (h + N) (P + l)
across a P N h l e z = omega arith

across' : (a P N h l : ℕ) → N ≡ a + P → l ≡ 0 → dist 0 a ≤ dist (h + N) (P + l)
across' a P N h l e z = omega arith

pub nearest : {f : Format} {z y : Float} {P N C : ℕ} → Rounds f z P N C → Fin f z → Fin f y → Distance f z P N C ≤ Distance f y P N C
unfolding limit
nearest {f} {z} {y} {P} {N} {C} r p q = go (dec_le N P) (one_side f y)
  where
    H : Held f (hi f y) × Held f (lo f y)
    H = each-side f y (Held f) (held-zero f) (held q)

    none : (a b : ℕ) → a ≤ b → near f (a - b) C ≡ 0
    none a b h = ap (λ (n : ℕ). near f n C) (sub-eq-zero_of_le h) ∙ near-zero f C r.below

    small : (hi f z < overflow f) × (lo f z < overflow f)
    small = let u = fin-under p in (lt_of_le_of_lt (first (hi f z) (lo f z)) u, lt_of_le_of_lt (second (hi f z) (lo f z)) u)
      where
        first : (a b : ℕ) → a ≤ a + b
        first a b = omega arith

        second : (a b : ℕ) → b ≤ a + b
        second a b = omega arith

    up : (b : ℕ) → Held f b → dist (hi f z * C) (P - N) ≤ dist (b * C) (P - N)
    up b B = rw r.hi (near-nearest f (P - N) C b r.below (rw r.hi at small.0) B)

    down : (b : ℕ) → Held f b → dist (lo f z * C) (N - P) ≤ dist (b * C) (N - P)
    down b B = rw r.lo (near-nearest f (N - P) C b r.below (rw r.lo at small.1) B)

    clear : (n : ℕ) → n ≡ 0 → n * C ≡ 0
    clear n e = ap (λ (x : ℕ). x * C) e ∙ zero-mul C

    go : Dec (N ≤ P) → (hi f y ≡ 0) ⊎ (lo f y ≡ 0) → Distance f z P N C ≤ Distance f y P N C
    go (yes h) o =
        let e = sym (sub-add_cancel h) in
        le_trans (le_of_eq (along (hi f z * C) (P - N) P N (lo f z * C) e (clear (lo f z) (r.lo ∙ none N P h)))) (elim o [
          | inl z ↦ le_trans (up 0 (held-zero f))
              (le_trans (le_of_eq (ap (λ (n : ℕ). dist n (P - N)) (zero-mul C))) (across (P - N) P N (hi f y * C) (lo f y * C) e (clear (hi f y) z)))
          | inr z ↦ le_trans (up (hi f y) H.0) (le_of_eq (sym (along (hi f y * C) (P - N) P N (lo f y * C) e (clear (lo f y) z))))
        ])
    go (no h) o =
        let l : P ≤ N = omega arith in
        let e = sym (sub-add_cancel l) in
        le_trans (le_of_eq (back (lo f z * C) (N - P) P N (hi f z * C) e (clear (hi f z) (r.hi ∙ none P N l)))) (elim o [
          | inl z ↦ le_trans (down (lo f y) H.1) (le_of_eq (sym (back (lo f y * C) (N - P) P N (hi f y * C) e (clear (hi f y) z))))
          | inr z ↦ le_trans (down 0 (held-zero f))
              (le_trans (le_of_eq (ap (λ (n : ℕ). dist n (N - P)) (zero-mul C))) (across' (N - P) P N (hi f y * C) (lo f y * C) e (clear (lo f y) z)))
        ])
