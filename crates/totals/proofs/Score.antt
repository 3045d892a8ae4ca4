-- One score: its parts are the nearest whole number, at most 1,310,720 where the score is accepted, and what the code reads off its pattern. Assumes nothing.
use mathlib.Core.Path.{◌≡◌, refl, sym, ap, ◌∙◌, subst}
use mathlib.Core.Logic.{◌⊎◌, inl, inr}
use mathlib.Core.Bool.{Bool, true, false, not, ◌&&◌, ◌||◌}
use Prim.Native.Nat.{ℕ, suc, ◌+◌, ◌-◌, ◌*◌, ◌/◌, ◌%◌, ◌^◌, ◌≤◌, ◌<◌, zero-le}
use native.Mathlib.Nat.{le_trans, le_of_eq, le_antisymm, lt_of_le_of_lt, lt_of_lt_of_le, lt_of_not-le, eq-zero-or-pos, suc-mul, mul_assoc, mul_comm, mul-le-mul_right, div-le_of_le-mul}
use native.Mathlib.Omega.{arith}
use lib.IntN.{pos}
use lib.Dec.{T, ltb, eqb, ltb→lt, nltb→le}
use lib.Pow.{pow-add, pow_pos, pow_mono, shl_lt}
use lib.Ieee.{Float, nan, inf, fin, binary32, up, down, round, is_nan, fits, lt, le, eq, neg, of_bits, to_bits}
use lib.Ieee.Nearest.{closest, closest_same}
use borrow.Author.Tests.{ltb-true, ltb-false, eqb-true, eqb-false}
use Rattle.floatlaws.specs.Value.{mag}
use Rattle.floatlaws.specs.Whole.{NearestWhole, closest-near, closest-nearest, closest-zero, exp_lt}
use Rattle.floatlaws.specs.Bits.{value_of, value_low, value-high, by_zero, by_value, by_inf}
use Rattle.float.specs.Select.{abs}
use Rattle.color.specs.Color.{fraction, whole}
use Rattle.totals.specs.Score.{unfit, parts_of, per_part}

-- ---- the nearest whole number is at most n where the fraction is

under_next : (a b n q : ℕ) → 0 < b → a ≤ n * b → q * b * 2 ≤ a * 2 + b → suc n ≤ q → ⊥
under_next a b n q B h k l = omega (arith, mul-le-mul_right b l, suc-mul n b)

closest-most : (a b n : ℕ) → 0 < b → a ≤ n * b → closest a b ≤ n
closest-most a b n B h =
    let z : closest a b < suc n = lt_of_not-le (under_next a b n (closest a b) B h (closest-near a b B).0) in
    at_most (closest a b) z
  where
    at_most : (q : ℕ) → q < suc n → q ≤ n
    at_most q l = omega arith

-- ---- an accepted score is no NaN and no infinity, and at most 20

true-false : true ≡ false → ⊥
true-false e = let z : ◌≡◌ {A = ℕ} 0 1 = cc in omega arith

pub fit-real : (v : Float) → unfit v ≡ false → T (not (is_nan v))
unfolding unfit abs le lt eq is_nan
fit-real nan e = absurd (true-false e)
fit-real (inf s) e = tt
fit-real (fin s m e) h = tt

fit_no_inf : (s : Bool) → unfit (inf s) ≡ false → ⊥
unfolding unfit abs le lt eq fraction round
fit_no_inf s e = true-false e

-- less or the same
at_most : (a b : ℕ) (p q : Bool) → ltb a b ≡ p → eqb a b ≡ q → (c : Bool) → not (p || (q && c)) ≡ false → a ≤ b
at_most a b true q e f c h = let l = ltb-true a b e in omega arith
at_most a b false true e f c h = le_of_eq (eqb-true a b f)
at_most a b false false e f c h = absurd (true-false h)

-- twenty in units of 2 ^ -149
unfoldable twenty : ℕ
twenty = 20 * 2 ^ 149

scaled : (n d u t : ℕ) → n * 1 ≤ 20 * d → t ≡ 20 * u → n * u ≤ d * t
scaled n d u t h e = rw e (le_trans (mul-le-mul_right u (less h)) (le_of_eq (ap (λ (x : ℕ). x * u) (mul_comm 20 d) ∙ mul_assoc d 20 u)))
  where
    less : n * 1 ≤ 20 * d → n ≤ 20 * d
    less h = omega arith

within : (v : Float) → unfit v ≡ false → mag binary32 v ≤ twenty
unfolding unfit abs le lt eq fraction round mag twenty
within nan h = zero-le
within (inf s) h = absurd (true-false h)
within (fin s m e) h =
    div-le_of_le-mul (down e)
    (scaled (m * up e) (down e) (2 ^ 149) (20 * 2 ^ 149) (at_most (m * up e * 1) (20 * down e) _ _ refl refl _ h) refl)

in_parts : twenty ≡ 1310720 * per_part
unfolding twenty per_part
in_parts = refl

per_part-pos : 0 < per_part
unfolding per_part
per_part-pos = pow_pos 133

pub parts-most : (v : Float) → unfit v ≡ false → parts_of v ≤ 1310720
unfolding parts_of
parts-most v h = closest-most (mag binary32 v) per_part 1310720 per_part-pos (le_trans (within v h) (le_of_eq in_parts))

pub parts-nearest : (v : Float) → NearestWhole (mag binary32 v) per_part (parts_of v)
unfolding parts_of
parts-nearest v = closest-nearest (mag binary32 v) per_part per_part-pos

-- ---- the parts by the fields of the pattern

no_size : (s : Bool) → mag binary32 (fin s 0 (pos 0)) ≡ 0
unfolding mag
no_size s = refl

-- the pattern without its sign
abbrev pub pattern : Float → ℕ
pattern v = to_bits binary32 v % 0x8000_0000

module _ (v : Float) (F : T (fits binary32 v)) (h : unfit v ≡ false) where
  finite : pattern v < 0x7f80_0000
  finite = lt_of_not-le (λ (l : 0x7f80_0000 ≤ pattern v). fit_no_inf _ (subst (λ (x : Float). unfit x ≡ false) (by_inf binary32 v F (fit-real v h) l) h))

  size_is : mag binary32 v ≡ value_of binary32 (pattern v)
  size_is = go (eq-zero-or-pos (pattern v))
    where
      go : (pattern v ≡ 0) ⊎ (0 < pattern v) → mag binary32 v ≡ value_of binary32 (pattern v)
      go (inl e) = ap (mag binary32) (by_zero binary32 v F e) ∙ no_size _ ∙ sym (ap (value_of binary32) e ∙ value_low binary32 0 (pow_pos 23))
      go (inr l) = let a = by_value binary32 v F l finite in ap (mag binary32) a.is ∙ a.size

-- below the field 110 it is less than half of a part
half-part : (g : ℕ) → g / 0x80_0000 < 110 → value_of binary32 g < 2 ^ 132
half-part g h = go (ltb g 0x80_0000) (ltb→lt g 0x80_0000) (nltb→le g 0x80_0000)
  where
    digits : (g : ℕ) → g % 0x80_0000 + 0x80_0000 < 2 ^ 24
    digits g = omega arith

    shift : (g : ℕ) → g / 0x80_0000 < 110 → 24 + (g / 0x80_0000 - 1) ≤ 132
    shift g h = omega arith

    go : (b : Bool) → (T b → g < 0x80_0000) → (T (not b) → 0x80_0000 ≤ g) → value_of binary32 g < 2 ^ 132
    go true y z = lt_of_le_of_lt (le_of_eq (value_low binary32 g (y tt))) (lt_of_lt_of_le (y tt) (pow_mono {i = 23} {j = 132} (omega arith)))
    go false y z =
        lt_of_le_of_lt (le_of_eq (value-high binary32 g (z tt)))
        (lt_of_lt_of_le (shl_lt 24 (g / 0x80_0000 - 1) (digits g)) (pow_mono {j = 132} (shift g h)))

-- and from there on 24 digits, shifted
has-field : (g : ℕ) → 110 ≤ g / 0x80_0000 → 0x80_0000 ≤ g
has-field g h = omega arith

module _ (v : Float) (F : T (fits binary32 v)) (h : unfit v ≡ false) where
  pub none : pattern v / 0x80_0000 < 110 → 0 ≡ parts_of v
  unfolding parts_of per_part
  none l = sym (closest-zero (mag binary32 v) 132 133 (lt_of_le_of_lt (le_of_eq (size_is v F h)) (half-part (pattern v) l)) (omega arith))

  pub field-most : 110 ≤ pattern v / 0x80_0000 → pattern v / 0x80_0000 ≤ 131
  unfolding twenty
  field-most l =
      let x = pattern v / 0x80_0000 in
      let t = pattern v % 0x80_0000 + 0x80_0000 in
      let a : 2 ^ 23 * 2 ^ (x - 1) ≤ t * 2 ^ (x - 1) = mul-le-mul_right (2 ^ (x - 1)) (more (pattern v)) in
      let b : t * 2 ^ (x - 1) ≤ twenty = le_trans (le_of_eq (sym (size_is v F h ∙ value-high binary32 (pattern v) (has-field (pattern v) l)))) (within v h) in
      let c : 2 ^ (23 + (x - 1)) < 2 ^ 154 = lt_of_le_of_lt (le_of_eq (pow-add 2 23 (x - 1))) (lt_of_le_of_lt (le_trans a b) small) in
      last x (exp_lt c)
    where
      more : (g : ℕ) → 2 ^ 23 ≤ g % 0x80_0000 + 0x80_0000
      more g = omega arith

      small : twenty < 2 ^ 154
      small = ltb→lt (20 * 2 ^ 149) (2 ^ 154) tt

      last : (x : ℕ) → 23 + (x - 1) < 154 → x ≤ 131
      last x h = omega arith

  pub some : (r : ℕ) → 110 ≤ pattern v / 0x80_0000 → r ≡ closest (pattern v % 0x80_0000 + 0x80_0000) (2 ^ (134 - pattern v / 0x80_0000)) → r ≡ parts_of v
  unfolding parts_of per_part
  some r l e =
      let x = pattern v / 0x80_0000 in
      let t = pattern v % 0x80_0000 + 0x80_0000 in
      e ∙ closest_same t (2 ^ (134 - x)) (t * 2 ^ (x - 1)) (2 ^ 133) (pow_pos (134 - x)) (pow_pos 133)
      (sym (mul_assoc t (2 ^ (x - 1)) (2 ^ (134 - x)) ∙ ap (λ (y : ℕ). t * y) (sym (pow-add 2 (x - 1) (134 - x)) ∙ ap (λ (y : ℕ). 2 ^ y) (whole-shift x l (field-most l)))))
      ∙ ap (λ (y : ℕ). closest y (2 ^ 133)) (sym (size_is v F h ∙ value-high binary32 (pattern v) (has-field (pattern v) l)))
    where
      whole-shift : (x : ℕ) → 110 ≤ x → x ≤ 131 → x - 1 + (134 - x) ≡ 133
      whole-shift x h k = omega arith

-- ---- the code's numbers and tests

pub n12 : of_bits binary32 0x4140_0000 ≡ whole 12
unfolding of_bits round fraction
n12 = refl

pub n20 : of_bits binary32 0x41a0_0000 ≡ whole 20
unfolding of_bits round fraction
n20 = refl

-- r is the parts: all that is said of them
pub parts_are : (v : Float) → unfit v ≡ false → (r : ℕ) → r ≡ parts_of v → (r ≡ parts_of v) × (r ≤ 1310720) × NearestWhole (mag binary32 v) per_part r
parts_are v h r e = (e, le_trans (le_of_eq e) (parts-most v h), rw e (parts-nearest v))

-- ---- sentence 19 holds of a score that is not below -20 and not above 20, as every refined one, exactly where it is a NaN

at_most-true : (a b : ℕ) (p q : Bool) → ltb a b ≡ p → eqb a b ≡ q → a ≤ b → not (p || (q && true)) ≡ false
at_most-true a b true q e f h = refl
at_most-true a b false true e f h = refl
at_most-true a b false false e f h = absurd (eqb-false a b f (le_antisymm h (ltb-false a b e)))

pub unfit-within : (v : Float) → lt v (neg (whole 20)) ≡ false → lt (whole 20) v ≡ false → unfit v ≡ is_nan v
unfolding unfit abs neg le lt eq fraction round is_nan
unfit-within nan a b = refl
unfit-within (inf true) a b = absurd (true-false a)
unfit-within (inf false) a b = absurd (true-false b)
unfit-within (fin true m e) a b = at_most-true (m * up e * 1) (20 * down e) _ _ refl refl (ltb-false (20 * down e) (m * up e * 1) a)
unfit-within (fin false m e) a b = at_most-true (m * up e * 1) (20 * down e) _ _ refl refl (ltb-false (20 * down e) (m * up e * 1) b)
