-- `float::cbrt` meets its contract. The tests on the pattern part the special values, and for the rest `icbrt_long` gives the 25 digits that
-- `proofs/Rounding.antt` asks for; the sign is the pattern's first bit. Assumes nothing.
use Rattle.std.proofs.Common.{◌≡◌, ℕ, true, ◌+◌, ◌-◌, ◌*◌, ◌/◌, ◌%◌, ◌^◌, ◌<◌, ◌≤◌, cond, not, T, leb, ◌⊎◌, inl, inr, refl, sym, ap, ◌∙◌, subst, le_trans, le_of_eq, arith}
use lib.Ieee.{Float, binary32, fits, is_nan, nan_bits, to_bits, of_bits}
use lib.Ieee.Bits.{to_bits-lt}
use Rattle.float.proofs.NoNan.{is_number, is_none}
use Rattle.floatlaws.specs.Bits.{real-pattern, sign_bit, unsigned}
use Rattle.float.specs.Parts.{Split}
use Rattle.float.specs.Root.{cbrt_of}
use Rattle.float.proofs.Rounding.{moved_lt, moved-below, cbrt-nan, cbrt-zero, cbrt-inf, cbrt-finite, cbrt-digits, cbrt-made}
use Rattle.float.proofs.cbrt.Goals as goal

-- the format holds what the function is handed
held : (x : Float) → fits binary32 x ≡ true → T (fits binary32 x)
held x e = subst T (sym e) tt

small-shift : (s : ℕ) → 1 + s % 3 ≤ 40
small-shift s = omega arith

-- what `Parts::of_bits` gave: v is the value, m and s its digits and its place; u is m as a u64
module _ (v m s u : ℕ) (parts : Split v m s) (wide : u ≡ m) where
  moved : (u * 2 ^ (1 + s % 3)) % 2 ^ 64 ≡ m * 2 ^ (1 + s % 3)
  moved = rw wide (moved_lt m (1 + s % 3) parts.under (small-shift s))

  -- the root has 25 digits, and it is the program's pattern: q is what `icbrt_long` gave
  module _ (q : ℕ) (under : q * q * q ≤ (u * 2 ^ (1 + s % 3)) % 2 ^ 64 * 2 ^ 48) (over : (u * 2 ^ (1 + s % 3)) % 2 ^ 64 * 2 ^ 48 < (q + 1) * (q + 1) * (q + 1)) where
    at_least : q * q * q ≤ m * 2 ^ (1 + s % 3) * 2 ^ 48
    at_least = subst (λ (a : ℕ). q * q * q ≤ a * 2 ^ 48) moved under

    below : m * 2 ^ (1 + s % 3) * 2 ^ 48 < (q + 1) * (q + 1) * (q + 1)
    below = subst (λ (a : ℕ). a * 2 ^ 48 < (q + 1) * (q + 1) * (q + 1)) moved over

    digits : (0x100_0000 ≤ q) × (q < 0x200_0000)
    digits = cbrt-digits _ _ _ q parts at_least below

-- the sign's bit
sign : (x : Float) → fits binary32 x ≡ true → to_bits binary32 x - to_bits binary32 x % 0x8000_0000 ≡ cond (leb 0x8000_0000 (to_bits binary32 x)) 0x8000_0000 0
sign x e = let b = to_bits binary32 x in whole b ∙ sign_bit binary32 b 0x8000_0000 (to_bits-lt binary32 x (held x e))
  where
    whole : (b : ℕ) → b - b % 0x8000_0000 ≡ b / 0x8000_0000 * 0x8000_0000
    whole b = omega arith

pub returns-then-is_nan : goal.returns-then-is_nan
returns-then-is_nan c = cbrt-nan c.args.x (is_none c.args.x c.is_nan.result c.is_nan.ensures.value c.if-is_nan.true)

-- a zero, or an infinity
its_own : (x : Float) → T (fits binary32 x) → T (not (is_nan x)) → (m : ℕ) → m ≡ to_bits binary32 x % 0x8000_0000 → (m ≡ 0) ⊎ ((m ≡ 0 → ⊥) × (0x7f80_0000 ≤ m)) → x ≡ cbrt_of x
its_own x F n m e (inl z) = cbrt-zero x F (sym e ∙ z)
its_own x F n m e (inr h) = cbrt-inf x F n (omega arith)

pub returns-then-mag-eq0 : goal.returns-then-mag-eq0
returns-then-mag-eq0 c =
    let x = c.args.x in
    its_own x (held x c.well_formed.0.1) (is_number x c.is_nan.result c.is_nan.ensures.value c.if-is_nan.false) _ refl c.then-mag-eq0.either

pub icbrt_long-requires : goal.icbrt_long-requires
icbrt_long-requires c =
    let p = c in
    subst (λ (a : ℕ). a < 2 ^ 27) (sym (moved _ _ _ _ p.of_bits-p.ensures p.from.ensures)) (moved-below _ (1 + p.of_bits-p.result.s % 3) 3 p.of_bits-p.ensures.under (omega arith))

pub overflow_add-q : goal.overflow_add-q
overflow_add-q c = omega (arith, digits _ _ _ _ c.of_bits-p.ensures c.from.ensures _ c.icbrt_long.ensures.0 c.icbrt_long.ensures.1)

pub overflow_cast-result : goal.overflow_cast-result
overflow_cast-result c = omega (arith, digits _ _ _ _ c.of_bits-p.ensures c.from.ensures _ c.icbrt_long.ensures.0 c.icbrt_long.ensures.1)

pub overflow_add-result-2 : goal.overflow_add-result-2
overflow_add-result-2 c = omega (arith, digits _ _ _ _ c.of_bits-p.ensures c.from.ensures _ c.icbrt_long.ensures.0 c.icbrt_long.ensures.1, c.of_bits-p.ensures.far)

pub overflow_add-result-3 : goal.overflow_add-result-3
overflow_add-result-3 c =
    omega (
      arith,
      digits _ _ _ _ c.of_bits-p.ensures c.from.ensures _ c.icbrt_long.ensures.0 c.icbrt_long.ensures.1,
      c.of_bits-p.ensures.far,
      to_bits-lt binary32
          c.args.x
          (held c.args.x c.well_formed.0.1),
    )

pub returns : goal.returns
returns c =
    let at = c in
    let x = at.args.x in
    let r = (c.of_bits-p.result.s / 3 + 76) * 0x80_0000 + (c.icbrt_long.result + 1) / 2 in
    ap (λ (b : ℕ). of_bits binary32 (b + r)) (sign at.args.x at.well_formed.0.1)
    ∙ sym (cbrt-finite x (held at.args.x at.well_formed.0.1) (omega (arith, c.if-mag-eq0.false)) (omega arith)
    ∙ cbrt-made _ _ _ c.icbrt_long.result c.of_bits-p.ensures (at_least _ _ _ _ c.of_bits-p.ensures c.from.ensures _ c.icbrt_long.ensures.0 c.icbrt_long.ensures.1) (below _ _ _ _ c.of_bits-p.ensures c.from.ensures _ c.icbrt_long.ensures.0 c.icbrt_long.ensures.1)
    (leb 0x8000_0000 (to_bits binary32 x)))

-- a pattern up to the infinity's, with either sign
pub float_from_bits-result : goal.float_from_bits-result
float_from_bits-result c =
    let at = c in
    let s = leb 0x8000_0000 (to_bits binary32 at.args.x) in
    let r = (c.of_bits-p.result.s / 3 + 76) * 0x80_0000 + (c.icbrt_long.result + 1) / 2 in
    let small : r ≤ 0x7f80_0000 = omega (arith, digits _ _ _ _ c.of_bits-p.ensures c.from.ensures _ c.icbrt_long.ensures.0 c.icbrt_long.ensures.1, c.of_bits-p.ensures.far) in
    subst (λ (b : ℕ). T (not (nan_bits binary32 (b + r)))) (sym (sign at.args.x at.well_formed.0.1))
    (real-pattern binary32 (cond s 0x8000_0000 0 + r) (le_trans (le_of_eq (unsigned binary32 s r (omega arith))) small))
