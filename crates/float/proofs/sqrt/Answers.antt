-- `float::sqrt` meets its contract. The tests on the pattern part the special values, and for the rest `isqrt` gives the 25 digits that
-- `proofs/Rounding.antt` asks for. Assumes nothing.
use Rattle.std.proofs.Common.{◌≡◌, ℕ, true, ◌+◌, ◌*◌, ◌%◌, ◌^◌, ◌<◌, ◌≤◌, false, not, T, ◌⊎◌, inl, inr, sym, ap, ◌∙◌, subst, arith}
use native.Mathlib.Nat.{eq-or-lt_of_le}
use lib.Ieee.{Float, binary32, fits, is_nan, of_bits, to_bits}
use lib.Ieee.Bits.{to_bits-lt}
use Rattle.float.proofs.NoNan.{is_number, is_none}
use Rattle.floatlaws.specs.Bits.{value_of, real-pattern}
use Rattle.float.specs.Parts.{Split}
use Rattle.float.specs.Root.{root_of_units, sqrt_of}
use Rattle.float.proofs.Rounding.{moved_lt, moved-below, sqrt-nan, sqrt-zero, sqrt-inf, sqrt_negative, sqrt-finite, sqrt-digits, sqrt-made}
use Rattle.float.proofs.sqrt.Goals as goal

-- the format holds what the function is handed
held : (x : Float) → fits binary32 x ≡ true → T (fits binary32 x)
held x e = subst T (sym e) tt

small-shift : (s : ℕ) → 25 + s % 2 ≤ 40
small-shift s = omega arith

-- what `Parts::of_bits` gave: v is the value, m and s its digits and its place; u is m as a u64
module _ (v m s u : ℕ) (parts : Split v m s) (wide : u ≡ m) where
  moved : (u * 2 ^ (25 + s % 2)) % 2 ^ 64 ≡ m * 2 ^ (25 + s % 2)
  moved = rw wide (moved_lt m (25 + s % 2) parts.under (small-shift s))

  -- q is what `isqrt` gave
  module _ (q : ℕ) (under : q * q ≤ (u * 2 ^ (25 + s % 2)) % 2 ^ 64) (over : (u * 2 ^ (25 + s % 2)) % 2 ^ 64 < (q + 1) * (q + 1)) where
    at_least : q * q ≤ m * 2 ^ (25 + s % 2)
    at_least = subst (λ (a : ℕ). q * q ≤ a) moved under

    below : m * 2 ^ (25 + s % 2) < (q + 1) * (q + 1)
    below = subst (λ (a : ℕ). a < (q + 1) * (q + 1)) moved over

    digits : (0x100_0000 ≤ q) × (q < 0x200_0000)
    digits = sqrt-digits _ _ _ q parts at_least below

pub returns-then-is_nan : goal.returns-then-is_nan
returns-then-is_nan c = sqrt-nan c.args.x (is_none c.args.x c.is_nan.result c.is_nan.ensures.value c.if-is_nan.true)

-- below zero
pub returns-then-bits-gt2147483648 : goal.returns-then-bits-gt2147483648
unfolding of_bits
returns-then-bits-gt2147483648 c =
    let x = c.args.x in
    let F = held x c.well_formed.0.1 in
    sym (sqrt_negative x F (is_number x c.is_nan.result c.is_nan.ensures.value c.if-is_nan.false) (omega arith) (omega (arith, to_bits-lt binary32 x F)))

-- -0, or +∞
its_own : (x : Float) → T (fits binary32 x) → T (not (is_nan x)) → 0x7f80_0000 ≤ to_bits binary32 x → (to_bits binary32 x ≡ 0x8000_0000) ⊎ (to_bits binary32 x < 0x8000_0000) → x ≡ sqrt_of x
its_own x F n h (inl e) = sqrt-zero x F (omega arith)
its_own x F n h (inr l) = sqrt-inf x F n l (omega arith)

pub returns-else-bits-gt2147483648 : goal.returns-else-bits-gt2147483648
returns-else-bits-gt2147483648 c =
    let x = c.args.x in
    its_own x (held x c.well_formed.0.1) (is_number x c.is_nan.result c.is_nan.ensures.value c.if-is_nan.false) c.if-bits-ge2139095040.true (eq-or-lt_of_le c.if-bits-gt2147483648.false)

pub returns-then-bits-eq0 : goal.returns-then-bits-eq0
returns-then-bits-eq0 c = sqrt-zero _ (held c.args.x c.well_formed.0.1) (omega (arith, c.if-bits-eq0.true))

pub isqrt-requires : goal.isqrt-requires
isqrt-requires c =
    let p = c in
    subst (λ (a : ℕ). a < 2 ^ 50) (sym (moved _ _ _ _ p.of_bits-p.ensures p.from.ensures)) (moved-below _ (25 + p.of_bits-p.result.s % 2) 26 p.of_bits-p.ensures.under (omega arith))

pub overflow_add-q : goal.overflow_add-q
overflow_add-q c = omega (arith, digits _ _ _ _ c.of_bits-p.ensures c.from.ensures _ c.isqrt.ensures.0 c.isqrt.ensures.1)

pub overflow_cast-result : goal.overflow_cast-result
overflow_cast-result c = omega (arith, digits _ _ _ _ c.of_bits-p.ensures c.from.ensures _ c.isqrt.ensures.0 c.isqrt.ensures.1)

pub overflow_add-result-2 : goal.overflow_add-result-2
overflow_add-result-2 c = omega (arith, digits _ _ _ _ c.of_bits-p.ensures c.from.ensures _ c.isqrt.ensures.0 c.isqrt.ensures.1, c.of_bits-p.ensures.far)

pub float_from_bits-result : goal.float_from_bits-result
float_from_bits-result c = real-pattern binary32 _ (omega (arith, digits _ _ _ _ c.of_bits-p.ensures c.from.ensures _ c.isqrt.ensures.0 c.isqrt.ensures.1, c.of_bits-p.ensures.far))

pub returns : goal.returns
returns c =
    let at = c in
    let x = at.args.x in
    let b = to_bits binary32 x in
    let e : b % 0x8000_0000 ≡ b = omega arith in
    let l : 0 < b = omega (arith, c.if-bits-eq0.false) in
    sym (sqrt-finite x (held at.args.x at.well_formed.0.1) (omega arith) (omega arith) (omega arith)
    ∙ ap (λ (y : ℕ). root_of_units 2 false (value_of binary32 y)) e
    ∙ sqrt-made _ _ _ c.isqrt.result c.of_bits-p.ensures (at_least _ _ _ _ c.of_bits-p.ensures c.from.ensures _ c.isqrt.ensures.0 c.isqrt.ensures.1) (below _ _ _ _ c.of_bits-p.ensures c.from.ensures _ c.isqrt.ensures.0 c.isqrt.ensures.1))
