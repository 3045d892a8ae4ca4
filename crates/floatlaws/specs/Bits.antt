-- Bit patterns, for either format. A pattern is the sign's weight and the number g below it; up to g = `hid` the value is g units, and from there
-- each field of the exponent doubles the unit (`value_of`). So a value is told by its pattern (`by_zero`, `by_inf`, `by_value`), and q * 2 ^ k units
-- have the pattern k * `hid` + q, also where q is one past its digits and carries (`val_bits`, `units_bits`). A value of a format is its sign and
-- its size (`same_value`, `same_float`). Assumes nothing.
use Rattle.std.specs.Prelude.{◌≡◌, refl, ◌⊎◌, ℕ, zero, suc, ◌+◌, ◌-◌, ◌*◌, ◌/◌, ◌%◌, ◌^◌, ◌≤◌, ◌<◌, Bool, true, false, not, cond, ℤ, pos, T, ltb, eqb, Float}
use Rattle.std.proofs.Math.Path.{sym, ap}
use Rattle.std.proofs.Common.{ap₂, ◌∙◌, subst, inl, inr, le_refl, le_trans, le_of_eq, le_antisymm, lt_of_lt_of_le, lt_of_le_of_lt, lt_irrefl, not-le_of_lt, eq-or-lt_of_le, add_assoc, add_comm, add-le-add, zero-mul, one-mul, mul-one, mul_assoc, mul_comm, mul-pos, mul-le-mul, mul-le-mul_right, suc-mul, mul-div_cancel, mod-eq_of_lt, le-div_iff_mul-le, div-lt_iff_lt-mul, arith, ltb→lt, nltb→le, leb→le, pow-add, pow_pos, pow_mono, shl_lt, ltb-false, lt-ltb, le-ltb, ne_eqb}
use Rattle.std.proofs.Math.Nat.{eq_of_mul-eq-mul_right, pow-succ', div-eq_of_lt}
use Rattle.std.proofs.Math.Dec.{not_T, leb, nleb→lt}
use Rattle.std.proofs.Math.Pow.{pow-lt}
use Rattle.std.specs.Float.{nan, inf, fin, Format, binary32, binary64}
use Rattle.std.specs.Float.Ieee.{prec, emax, low, up, down, size, odd, units, round, fits, is_nan, hid, ones, top, of_fields, of_bits, nan_bits, to_bits}
use Rattle.std.specs.Float.Ieee.Fits.{two, two-le_pos, down_pos, odd-fits, round_is}
use Rattle.std.specs.Float.Ieee.Nearest.{closest, closest_same, div_same}
use Rattle.std.specs.Float.Ieee.Bits.{cond_no, is_false, of_bits-to_bits, nan_bits_is, nan_bits_above}
use Rattle.std.specs.Float.Ieee.Exact.{HasValue, odd_sign, units_val}
use Rattle.std.specs.Float.Ieee.Scale.{overflow}
use Rattle.floatlaws.specs.Whole.{half_pow, size_at}
use Rattle.floatlaws.specs.Value.{mag, negative, mag_is, mag_of_value}
use Rattle.floatlaws.specs.Finite.{Fin}

-- the size, in units, of the finite value whose pattern without its sign is g
unfoldable pub value_of : Format → ℕ → ℕ
value_of f g = cond (ltb g (hid f)) g ((g % hid f + hid f) * 2 ^ (g / hid f - 1))

pub value_low : (f : Format) (g : ℕ) → g < hid f → value_of f g ≡ g
unfolding value_of
value_low f g h = ap (λ (t : Bool). cond t g ((g % hid f + hid f) * 2 ^ (g / hid f - 1))) (lt-ltb g (hid f) h)

pub value-high : (f : Format) (g : ℕ) → hid f ≤ g → value_of f g ≡ (g % hid f + hid f) * 2 ^ (g / hid f - 1)
unfolding value_of
value-high f g h = ap (λ (t : Bool). cond t g ((g % hid f + hid f) * 2 ^ (g / hid f - 1))) (le-ltb g (hid f) h)

hid-pos : (f : Format) → 0 < hid f
hid-pos f = pow_pos (prec f - 1)

-- ---- what the fields of a pattern stand for
read_low : (f : Format) (s : Bool) (g : ℕ) → g < hid f → of_fields f s (g / hid f) (g % hid f) ≡ odd (prec f) s g 0 (low f)
unfolding of_fields
read_low f s g h = ap₂ (λ (x t : ℕ). of_fields f s x t) (div-eq_of_lt h) (mod-eq_of_lt h)

under_ones : (f : Format) (s : Bool) (x t : ℕ) → suc x < ones f → of_fields f s (suc x) t ≡ odd (prec f) s (hid f + t) x (low f)
unfolding of_fields
under_ones f s x t h =
    ap (λ (b : Bool). cond b (cond (eqb t 0) (inf s) nan) (odd (prec f) s (hid f + t) x (low f)))
    (ne_eqb (suc x) (ones f) (differ (suc x) (ones f) h))
  where
    differ : (a b : ℕ) → a < b → a ≡ b → ⊥
    differ a b h e = omega arith

pub read-high : (f : Format) (s : Bool) (x t : ℕ) → 0 < x → x < ones f → of_fields f s x t ≡ odd (prec f) s (hid f + t) (x - 1) (low f)
read-high f s x t p h = ap (λ (y : ℕ). of_fields f s y t) (before x p) ∙ under_ones f s (x - 1) t (subst (λ (y : ℕ). y < ones f) (before x p) h)
  where
    before : (x : ℕ) → 0 < x → x ≡ suc (x - 1)
    before x h = omega arith

pub read : (f : Format) (s : Bool) (g : ℕ) → g < ones f * hid f → HasValue (of_fields f s (g / hid f) (g % hid f)) s (value_of f g) (2 ^ low f)
read f s g k = go (ltb g (hid f)) (ltb→lt g (hid f)) (nltb→le g (hid f))
  where
    go : (b : Bool) → (T b → g < hid f) → (T (not b) → hid f ≤ g) → HasValue (of_fields f s (g / hid f) (g % hid f)) s (value_of f g) (2 ^ low f)
    go true y z =
        subst (λ (x : Float). HasValue x s (value_of f g) (2 ^ low f)) (sym (read_low f s g (y tt)))
        (subst (λ (a : ℕ). HasValue (odd (prec f) s g 0 (low f)) s a (2 ^ low f)) (mul-one g ∙ sym (value_low f g (y tt)))
        (odd_sign (prec f) s g 0 (low f)))
    go false y z =
        let x = g / hid f in
        let t = g % hid f in
        let p : 0 < x = (le-div_iff_mul-le (hid-pos f)).1 (le_trans (le_of_eq (one-mul (hid f))) (z tt)) in
        subst (λ (v : Float). HasValue v s (value_of f g) (2 ^ low f)) (sym (read-high f s x t p ((div-lt_iff_lt-mul (hid-pos f)).1 k)))
        (subst (λ (a : ℕ). HasValue (odd (prec f) s (hid f + t) (x - 1) (low f)) s a (2 ^ low f))
        (ap (λ (y : ℕ). y * 2 ^ (x - 1)) (add_comm (hid f) t) ∙ sym (value-high f g (z tt)))
        (odd_sign (prec f) s (hid f + t) (x - 1) (low f)))

value_pos : (f : Format) (g : ℕ) → 0 < g → 0 < value_of f g
value_pos f g h = go (ltb g (hid f)) (ltb→lt g (hid f)) (nltb→le g (hid f))
  where
    more : (a b : ℕ) → 0 < b → 0 < a + b
    more a b h = omega arith

    go : (b : Bool) → (T b → g < hid f) → (T (not b) → hid f ≤ g) → 0 < value_of f g
    go true y z = subst (λ (x : ℕ). 0 < x) (sym (value_low f g (y tt))) h
    go false y z = subst (λ (x : ℕ). 0 < x) (sym (value-high f g (z tt))) (mul-pos (more (g % hid f) (hid f) (hid-pos f)) (pow_pos (g / hid f - 1)))

-- ---- a value by its pattern
pub mag-val : (f : Format) (x : Float) (s : Bool) (a : ℕ) → T (fits f x) → HasValue x s a (2 ^ low f) → mag f x ≡ a
mag-val f x s a F v = eq_of_mul-eq-mul_right (2 ^ low f) (pow_pos (low f)) (mag f x) a (mag_of_value f x s a (2 ^ low f) F v)

-- finite and not zero, of the sign s and the size a
pub record Above (f : Format) (x : Float) (s : Bool) (a : ℕ) : Type 0 where
  pub m : ℕ
  pub e : ℤ
  pub is : x ≡ fin s (suc m) e
  pub size : mag f (fin s (suc m) e) ≡ a

above : (f : Format) (x : Float) (s : Bool) (a : ℕ) → T (fits f x) → 0 < a → HasValue x s a (2 ^ low f) → Above f x s a
above f nan s a F h v = absurd v
above f (inf t) s a F h v = absurd v
above f (fin t zero e) s a F h v = absurd (none h v.1)
  where
    none : 0 < a → 0 * up e * 2 ^ low f ≡ a * down e → ⊥
    none h p =
        lt_irrefl 0 (subst (λ (x : ℕ). 0 < x) (sym p ∙ ap (λ (x : ℕ). x * 2 ^ low f) (zero-mul (up e)) ∙ zero-mul (2 ^ low f))
        (mul-pos h (down_pos e)))
above f (fin t (suc m) e) s a F h v =
    let i = ap (λ (b : Bool). fin b (suc m) e) v.0 in
    record { m = m; e = e; is = i; size = ap (mag f) (sym i) ∙ mag-val f (fin t (suc m) e) s a F v }

field : (f : Format) (b : ℕ) → b % hid f ≡ b % top f % hid f
field binary32 b = omega arith
field binary64 b = omega arith

at_ones : (f : Format) (s : Bool) → of_fields f s (ones f * hid f / hid f) (ones f * hid f % hid f) ≡ inf s
unfolding of_fields
at_ones binary32 s = refl
at_ones binary64 s = refl

-- a pattern is a NaN's only above the infinity's
pub real-pattern : (f : Format) (n : ℕ) → n % top f ≤ ones f * hid f → T (not (nan_bits f n))
real-pattern f n h = subst (λ (b : Bool). T (not b)) (sym (nan_bits_above f n ∙ le-ltb (ones f * hid f) (n % top f) h)) tt

module _ (f : Format) (x : Float) (F : T (fits f x)) where
  pub by_fields : x ≡ of_fields f (leb (top f) (to_bits f x)) (to_bits f x % top f / hid f) (to_bits f x % top f % hid f)
  unfolding of_bits
  by_fields =
      sym (of_bits-to_bits f x F)
      ∙ ap (λ (t : ℕ). of_fields f (leb (top f) (to_bits f x)) (to_bits f x % top f / hid f) t) (field f (to_bits f x))

  pub real-below : T (not (is_nan x)) → to_bits f x % top f ≤ ones f * hid f
  real-below n =
      let b = to_bits f x in
      ltb-false (ones f * hid f) (b % top f) (sym (nan_bits_above f b) ∙ nan_bits_is f b ∙ ap is_nan (of_bits-to_bits f x F) ∙ is_false (is_nan x) n)

  pub by_value : 0 < to_bits f x % top f → to_bits f x % top f < ones f * hid f → Above f x (leb (top f) (to_bits f x)) (value_of f (to_bits f x % top f))
  by_value h k =
      let s = leb (top f) (to_bits f x) in
      let g = to_bits f x % top f in
      above f x s (value_of f g) F (value_pos f g h) (subst (λ (y : Float). HasValue y s (value_of f g) (2 ^ low f)) (sym by_fields) (read f s g k))

  pub by_zero : to_bits f x % top f ≡ 0 → x ≡ fin (leb (top f) (to_bits f x)) 0 (pos 0)
  unfolding odd
  by_zero e =
      let s = leb (top f) (to_bits f x) in
      by_fields ∙ ap (λ (g : ℕ). of_fields f s (g / hid f) (g % hid f)) e ∙ read_low f s 0 (hid-pos f)

  pub by_inf : T (not (is_nan x)) → ones f * hid f ≤ to_bits f x % top f → x ≡ inf (leb (top f) (to_bits f x))
  by_inf n h =
      let s = leb (top f) (to_bits f x) in
      by_fields ∙ ap (λ (g : ℕ). of_fields f s (g / hid f) (g % hid f)) (le_antisymm (real-below n) h) ∙ at_ones f s

-- ---- the sign
quotient : (f : Format) (b : ℕ) → b < 2 * top f → top f ≤ b → b / top f ≡ 1
quotient binary32 b h k = omega arith
quotient binary64 b h k = omega arith

pub sign_bit : (f : Format) (b w : ℕ) → b < 2 * top f → b / top f * w ≡ cond (leb (top f) b) w 0
sign_bit f b w h = go (leb (top f) b) (leb→le (top f) b) (nleb→lt (top f) b)
  where
    go : (t : Bool) → (T t → top f ≤ b) → (T (not t) → b < top f) → b / top f * w ≡ cond t w 0
    go true y z = ap (λ (n : ℕ). n * w) (quotient f b h (y tt)) ∙ one-mul w
    go false y z = ap (λ (n : ℕ). n * w) (div-eq_of_lt (z tt)) ∙ zero-mul w

pub unsigned : (f : Format) (s : Bool) (g : ℕ) → g < top f → (cond s (top f) 0 + g) % top f ≡ g
unsigned binary32 true g h = omega arith
unsigned binary32 false g h = omega arith
unsigned binary64 true g h = omega arith
unsigned binary64 false g h = omega arith

-- ---- the pattern of a value, by its size
pub to_bits_val : (f : Format) (x : Float) (s : Bool) (a : ℕ) → HasValue x s a (2 ^ low f)
    → to_bits f x ≡ cond s (top f) 0 + ((size a - prec f) * hid f + a / 2 ^ (size a - prec f))
unfolding to_bits
to_bits_val f nan s a v = absurd v
to_bits_val f (inf t) s a v = absurd v
to_bits_val f (fin t m e) s a v =
    ap (λ (n : ℕ). cond t (top f) 0 + (size n - prec f) * hid f + n / 2 ^ (size n - prec f))
    (ap (λ (n : ℕ). n / down e) v.1 ∙ mul-div_cancel a (down_pos e))
    ∙ ap (λ (y : Bool). cond y (top f) 0 + (size a - prec f) * hid f + a / 2 ^ (size a - prec f)) v.0
    ∙ add_assoc (cond s (top f) 0) ((size a - prec f) * hid f) (a / 2 ^ (size a - prec f))

-- two values that fit, of one sign and one size, are the same
pub same_value : (f : Format) (x y : Float) (s : Bool) (a : ℕ) → T (fits f x) → T (fits f y) → HasValue x s a (2 ^ low f)
    → HasValue y s a (2 ^ low f) → x ≡ y
same_value f x y s a p q v w =
    sym (of_bits-to_bits f x p) ∙ ap (of_bits f) (to_bits_val f x s a v ∙ sym (to_bits_val f y s a w)) ∙ of_bits-to_bits f y q

pub own_value : {f : Format} {x : Float} → Fin f x → HasValue x (negative x) (mag f x) (2 ^ low f)
own_value {f} {x = nan} p = absurd p.finite
own_value {f} {x = inf s} p = absurd p.finite
own_value {f} {x = fin s m e} p = (refl, sym (mag_is f s m e p.fit))

pub same_float : {f : Format} {x y : Float} → Fin f x → Fin f y → negative x ≡ negative y → mag f x ≡ mag f y → x ≡ y
same_float {f} {x} {y} p q s m =
    same_value f x y (negative y) (mag f y) p.fit q.fit
    (subst (λ (a : ℕ). HasValue x (negative y) a (2 ^ low f)) m (subst (λ (b : Bool). HasValue x b (mag f x) (2 ^ low f)) s (own_value p)))
    (own_value q)

-- q * 2 ^ k units: q has `prec` digits, or fewer where k is 0, or is 2 ^ prec, which carries
module _ (f : Format) (x : Float) (s : Bool) where
  few_bits : (q k : ℕ) → q < 2 ^ prec f → (0 < k → hid f ≤ q) → HasValue x s (q * 2 ^ k) (2 ^ low f) → to_bits f x ≡ cond s (top f) 0 + (k * hid f + q)
  few_bits q k hi lo v =
      let a = q * 2 ^ k in
      let z : size a - prec f ≡ k =
      size_at (prec f) k a (two-le_pos (prec f) (two f)) (shl_lt (prec f) k hi)
      (λ l. le_trans (le_of_eq (pow-add 2 (prec f - 1) k)) (mul-le-mul_right (2 ^ k) (lo l))) in
      to_bits_val f x s a v
      ∙ ap (λ (d : ℕ). cond s (top f) 0 + (d * hid f + a / 2 ^ d)) z
      ∙ ap (λ (d : ℕ). cond s (top f) 0 + (k * hid f + d)) (mul-div_cancel q (pow_pos k))

  pub val_bits : (q k : ℕ) → q ≤ 2 ^ prec f → (0 < k → hid f ≤ q) → HasValue x s (q * 2 ^ k) (2 ^ low f)
      → to_bits f x ≡ cond s (top f) 0 + (k * hid f + q)
  val_bits q k hi lo v = go (eq-or-lt_of_le hi)
    where
      double : 2 ^ prec f ≡ hid f * 2
      double = half_pow (prec f) (two-le_pos (prec f) (two f))

      small : (h : ℕ) → 0 < h → h < h * 2
      small h p = omega arith

      carried : (c k h n : ℕ) → n ≡ h * 2 → c + (suc k * h + h) ≡ c + (k * h + n)
      carried c k h n e = omega (arith, suc-mul k h)

      go : (q ≡ 2 ^ prec f) ⊎ (q < 2 ^ prec f) → to_bits f x ≡ cond s (top f) 0 + (k * hid f + q)
      go (inr l) = few_bits q k l lo v
      go (inl e) =
          few_bits (hid f) (suc k) (subst (λ (n : ℕ). hid f < n) (sym double) (small (hid f) (hid-pos f))) (λ l. le_refl (hid f))
          (subst (λ (n : ℕ). HasValue x s n (2 ^ low f))
          (ap (λ (n : ℕ). n * 2 ^ k) (e ∙ double) ∙ mul_assoc (hid f) 2 (2 ^ k) ∙ ap (λ (n : ℕ). hid f * n) (sym (pow-succ' 2 k)))
          v)
          ∙ carried (cond s (top f) 0) k (hid f) q (e ∙ double)

pub made-fits : (f : Format) (s : Bool) (q k : ℕ) → q ≤ 2 ^ prec f → q * 2 ^ k < overflow f → T (fits f (odd (suc (prec f)) s q k (low f)))
made-fits f s q k hi h = odd-fits f (suc (prec f)) s q k (lt_of_le_of_lt hi (pow-lt (next (prec f)))) hi h
  where
    next : (p : ℕ) → p < suc p
    next p = omega arith

-- a value from its pattern
pub made : (f : Format) (s : Bool) (q k : ℕ) → hid f ≤ q → q ≤ 2 ^ prec f → q * 2 ^ k < overflow f
    → of_bits f (cond s (top f) 0 + (k * hid f + q)) ≡ odd (suc (prec f)) s q k (low f)
made f s q k lo hi h =
    let x = odd (suc (prec f)) s q k (low f) in
    ap (of_bits f) (sym (val_bits f x s q k hi (λ l. lo) (odd_sign (suc (prec f)) s q k (low f)))) ∙ of_bits-to_bits f x (made-fits f s q k hi h)

-- ---- what `units` makes: up to the infinity's pattern, and the infinity from there on
pub inf_bits : (f : Format) (s : Bool) → to_bits f (inf s) ≡ cond s (top f) 0 + ones f * hid f
unfolding to_bits
inf_bits f s = refl

first_inf : (f : Format) (s : Bool) → units f s (2 ^ prec f) (2 * emax f - 1) ≡ inf s
unfolding units
first_inf binary32 s = refl
first_inf binary64 s = refl

first_pattern : (f : Format) → (2 * emax f - 1) * hid f + 2 ^ prec f ≡ ones f * hid f
first_pattern binary32 = refl
first_pattern binary64 = refl

room : (f : Format) → prec f + (2 * emax f - 1) ≡ low f + suc (emax f)
room binary32 = refl
room binary64 = refl

pub units_bits : (f : Format) (s : Bool) (q k : ℕ) → q ≤ 2 ^ prec f → (0 < k → hid f ≤ q) → k ≤ 2 * emax f - 1
    → to_bits f (units f s q k) ≡ cond s (top f) 0 + (k * hid f + q)
units_bits f s q k hi lo K = go (eq-or-lt_of_le hi) (eq-or-lt_of_le K)
  where
    of_value : q * 2 ^ k < overflow f → to_bits f (units f s q k) ≡ cond s (top f) 0 + (k * hid f + q)
    of_value h = val_bits f (units f s q k) s q k hi lo (units_val f s q k h)

    under : (p k e : ℕ) → k < e → p + k < p + e
    under p k e h = omega arith

    go : (q ≡ 2 ^ prec f) ⊎ (q < 2 ^ prec f) → (k ≡ 2 * emax f - 1) ⊎ (k < 2 * emax f - 1)
        → to_bits f (units f s q k) ≡ cond s (top f) 0 + (k * hid f + q)
    go (inr l) d = of_value (lt_of_lt_of_le (shl_lt (prec f) k l) (pow_mono (le_trans (add-le-add (le_refl (prec f)) K) (le_of_eq (room f)))))
    go (inl e) (inr d) =
        of_value (subst (λ (n : ℕ). n * 2 ^ k < overflow f) (sym e)
        (subst (λ (n : ℕ). n < overflow f) (pow-add 2 (prec f) k)
        (pow-lt (lt_of_lt_of_le (under (prec f) k (2 * emax f - 1) d) (le_of_eq (room f))))))
    go (inl e) (inl d) =
        ap (to_bits f) (ap₂ (λ (a b : ℕ). units f s a b) e d ∙ first_inf f s)
        ∙ inf_bits f s
        ∙ ap (λ (n : ℕ). cond s (top f) 0 + n) (sym (ap₂ (λ (a b : ℕ). b * hid f + a) e d ∙ first_pattern f))

pub units-inf : (f : Format) (s : Bool) (q k : ℕ) → hid f ≤ q → 2 * emax f ≤ k → units f s q k ≡ inf s
unfolding units
units-inf f s q k lo K = cond_no (ltb (q * 2 ^ k) (overflow f)) (odd (suc (prec f)) s q k (low f)) (inf s)
    (not_T (ltb (q * 2 ^ k) (overflow f)) (λ t. not-le_of_lt (ltb→lt (q * 2 ^ k) (overflow f) t)
    (le_trans (le_of_eq (ap (λ (n : ℕ). 2 ^ n) (past f) ∙ pow-add 2 (prec f - 1) (2 * emax f))) (mul-le-mul lo (pow_mono K)))))
  where
    past : (f : Format) → low f + suc (emax f) ≡ prec f - 1 + 2 * emax f
    past binary32 = refl
    past binary64 = refl

-- ---- `round` at q * 2 ^ k / 2 ^ l, where the b digits that it drops are known: q / 2 ^ j to the nearest whole number, and b zeros
shifted : (q k l j b m : ℕ) → k + l + j ≡ b + m → q * 2 ^ k * 2 ^ l * 2 ^ j ≡ q * 2 ^ b * 2 ^ m
shifted q k l j b m e =
    mul_assoc (q * 2 ^ k) (2 ^ l) (2 ^ j)
    ∙ mul_assoc q (2 ^ k) (2 ^ l * 2 ^ j)
    ∙ ap (λ (x : ℕ). q * x)
    (sym (mul_assoc (2 ^ k) (2 ^ l) (2 ^ j)) ∙ sym (pow-add 2 (k + l) j ∙ ap (λ (x : ℕ). x * 2 ^ j) (pow-add 2 k l)) ∙ ap (λ (x : ℕ). 2 ^ x) e
    ∙ pow-add 2 b m)
    ∙ sym (mul_assoc q (2 ^ b) (2 ^ m))

pub round_at : (f : Format) (s : Bool) (q k l j b : ℕ) → k + low f + j ≡ b + l → size (q * 2 ^ b / 2 ^ j) - prec f ≡ b
    → round f s (q * 2 ^ k) (2 ^ l) ≡ units f s (closest q (2 ^ j)) b
round_at f s q k l j b e z =
    let n = q * 2 ^ k * 2 ^ low f in
    let x : n * 2 ^ j ≡ q * 2 ^ b * 2 ^ l = shifted q k (low f) j b l e in
    round_is f s (q * 2 ^ k) (2 ^ l)
    ∙ ap (λ (y : ℕ). units f s (closest n (2 ^ l * 2 ^ y)) y)
    (ap (λ (y : ℕ). size y - prec f) (div_same n (2 ^ l) (q * 2 ^ b) (2 ^ j) (pow_pos l) (pow_pos j) x) ∙ z)
    ∙ ap (λ (y : ℕ). units f s y b)
    (closest_same n (2 ^ l * 2 ^ b) q (2 ^ j) (mul-pos (pow_pos l) (pow_pos b)) (pow_pos j)
    (x ∙ mul_assoc q (2 ^ b) (2 ^ l) ∙ ap (λ (y : ℕ). q * y) (mul_comm (2 ^ b) (2 ^ l))))
