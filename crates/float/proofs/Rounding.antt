-- The pattern that the program makes is the root's. An f32 above zero is m * 2 ^ (s - 24) units, and its root has the exponent s divided by the
-- degree; what is left of s goes to m, whose root to 25 digits, halved and rounded up, is the nearest number of 24. The special values follow from
-- their patterns. Assumes nothing.
use Rattle.std.proofs.Common.{◌≡◌, ℕ, suc, ◌+◌, ◌-◌, ◌*◌, ◌/◌, ◌%◌, ◌^◌, ◌<◌, ◌≤◌, Bool, true, false, cond, not, T, ltb, leb, sym, refl, ap, ◌∙◌, subst, le_trans, le_of_eq, lt_of_lt_of_le, le_of_suc-le-suc, le-add_right, lt_of_le_of_lt, mod-lt, zero-lt-suc, mul_assoc, mul-le-mul, mul-le-mul_left, mul-lt-mul_of_pos_right, one-mul, pow-suc, div-add-mod', zero-add, add-one, arith, lit<, ltb→lt, nltb→le, pow_pos, pow_mono, pow-add, shl_lt, shl_exact, le-leb}
use native.Mathlib.Nat.{pow-zero}
use lib.Ieee.{Float, nan, inf, fin, binary32, odd, of_bits, to_bits, is_nan, fits}
use borrow.Author.Tests.{lt-leb}
use Rattle.float.specs.Root.{root_of_units, sqrt_of, cbrt_of}
use Rattle.float.specs.Parts.{Split}
use Rattle.floatlaws.specs.Whole.{pow_pow, root_lt}
use Rattle.floatlaws.specs.Bits.{value_of, by_value, by_zero, by_inf, made}
use Rattle.float.proofs.Iroot.{rounded}

-- ---- squares and cubes as powers
pub square : (t : ℕ) → t ^ 2 ≡ t * t
square t = pow-suc t 1 ∙ ap (λ (x : ℕ). x * t) (pow-suc t 0 ∙ ap (λ (x : ℕ). x * t) (pow-zero t) ∙ one-mul t)

pub cube : (t : ℕ) → t ^ 3 ≡ t * t * t
cube t = pow-suc t 2 ∙ ap (λ (x : ℕ). x * t) (square t)

-- ---- m moved up, as a shift of a u64 has it
pub moved_lt : (m c : ℕ) → m < 0x100_0000 → c ≤ 40 → (m * 2 ^ c) % 2 ^ 64 ≡ m * 2 ^ c
moved_lt m c h k = shl_exact 24 c 64 h (fit c k)
  where
    fit : (c : ℕ) → c ≤ 40 → 24 + c ≤ 64
    fit c h = omega arith

pub moved-below : (m c hi : ℕ) → m < 0x100_0000 → c ≤ hi → m * 2 ^ c < 0x100_0000 * 2 ^ hi
moved-below m c hi b h = lt_of_lt_of_le (mul-lt-mul_of_pos_right b (pow_pos c)) (mul-le-mul_left 0x100_0000 (pow_mono h))

-- ---- both roots. n is one less than the root's degree. u, in units, is m * 2 ^ (s - 24), and t is the whole part of the root of m * 2 ^ (c + s %
-- suc n): it has 25 digits, and half of it, rounded up, is the significand of the root of u.
module _ (n c : ℕ) (g : 24 * suc n + 1 ≡ 24 + c) (u m s t : ℕ) (P : Split u m s) (lo : t ^ suc n ≤ m * 2 ^ (c + s % suc n))
    (hi : m * 2 ^ (c + s % suc n) < (t + 1) ^ suc n) where
  pub left_over : s % suc n ≤ n
  left_over = le_of_suc-le-suc (mod-lt s (zero-lt-suc n))

  -- 2 ^ 24 and 2 ^ 25 to the power suc n are on either side
  pub root-digits : (0x100_0000 ≤ t) × (t < 0x200_0000)
  root-digits =
      let j = s % suc n in
      let a : 0x100_0000 ^ suc n ≤ m * 2 ^ (c + j) =
      le_trans (le_of_eq (pow_pow 2 24 (suc n) ∙ ap (λ (x : ℕ). 2 ^ x) (low n c g) ∙ pow-add 2 23 c))
      (mul-le-mul P.least (pow_mono (le-add_right c j))) in
      let b : m * 2 ^ (c + j) < 0x200_0000 ^ suc n =
      lt_of_lt_of_le (shl_lt 24 (c + j) P.under) (le_trans (pow_mono (high n c j g left_over)) (le_of_eq (sym (pow_pow 2 25 (suc n))))) in
      (le_of_suc-le-suc (le_trans (root_lt (suc n) (lt_of_le_of_lt a hi)) (le_of_eq (add-one t))), root_lt (suc n) (lt_of_le_of_lt lo b))
    where
      low : (n c : ℕ) → 24 * suc n + 1 ≡ 24 + c → 24 * suc n ≡ 23 + c
      low n c g = omega arith

      high : (n c j : ℕ) → 24 * suc n + 1 ≡ 24 + c → j ≤ n → 24 + (c + j) ≤ 25 * suc n
      high n c j g h = omega arith

  pub half : (0x80_0000 ≤ (t + 1) / 2) × ((t + 1) / 2 ≤ 0x100_0000)
  half = go t root-digits.0 root-digits.1
    where
      go : (t : ℕ) → 0x100_0000 ≤ t → t < 0x200_0000 → (0x80_0000 ≤ (t + 1) / 2) × ((t + 1) / 2 ≤ 0x100_0000)
      go t h k = omega arith

  pub root_is : (b : Bool) → root_of_units (suc n) b u ≡ odd 25 b ((t + 1) / 2) (s / suc n + 126 - 150 / suc n) 149
  root_is b = rounded n c u m s (s / suc n) (s % suc n) t b P.same (sym (div-add-mod' s (suc n))) g lo hi root-digits.0 root-digits.1

  room : (k : ℕ) → (t + 1) / 2 ≤ 0x100_0000 → k ≤ 252 → (t + 1) / 2 * 2 ^ k < 2 ^ 277
  room k a b = lt_of_le_of_lt (mul-le-mul a (pow_mono b)) (lit< tt)

  -- k is the exponent, as the program has it
  pub root-made : (b : Bool) (k : ℕ) → s / suc n + 126 - 150 / suc n ≡ k → k ≤ 252
      → root_of_units (suc n) b u ≡ of_bits binary32 (cond b 0x8000_0000 0 + (k * 0x80_0000 + (t + 1) / 2))
  root-made b k e h =
      root_is b ∙ ap (λ (x : ℕ). odd 25 b ((t + 1) / 2) x 149) e ∙ sym (made binary32 b ((t + 1) / 2) k half.0 half.1 (room k half.1 h))

-- ---- the square root
module _ (u m s t : ℕ) (P : Split u m s) (lo : t * t ≤ m * 2 ^ (25 + s % 2)) (hi : m * 2 ^ (25 + s % 2) < (t + 1) * (t + 1)) where
  lo2 : t ^ 2 ≤ m * 2 ^ (25 + s % 2)
  lo2 = le_trans (le_of_eq (square t)) lo

  hi2 : m * 2 ^ (25 + s % 2) < (t + 1) ^ 2
  hi2 = lt_of_lt_of_le hi (le_of_eq (sym (square (t + 1))))

  pub sqrt-digits : (0x100_0000 ≤ t) × (t < 0x200_0000)
  sqrt-digits = root-digits 1 25 refl u m s t P lo2 hi2

  small2 : s / 2 + 51 ≤ 252
  small2 = omega (arith, P.far)

  pub sqrt-made : root_of_units 2 false u ≡ of_bits binary32 ((s / 2 + 51) * 0x80_0000 + (t + 1) / 2)
  sqrt-made =
      root-made 1 25 refl u m s t P lo2 hi2 false (s / 2 + 51) (exponent (s / 2)) small2
      ∙ ap (of_bits binary32) (zero-add ((s / 2 + 51) * 0x80_0000 + (t + 1) / 2))
    where
      exponent : (d : ℕ) → d + 126 - 75 ≡ d + 51
      exponent d = omega arith

-- ---- the cube root: the program has the root of a * 2 ^ 48, with a for m * 2 ^ (1 + s % 3)
module _ (u m s t : ℕ) (P : Split u m s) (lo : t * t * t ≤ m * 2 ^ (1 + s % 3) * 2 ^ 48)
    (hi : m * 2 ^ (1 + s % 3) * 2 ^ 48 < (t + 1) * (t + 1) * (t + 1)) where
  whole : m * 2 ^ (1 + s % 3) * 2 ^ 48 ≡ m * 2 ^ (49 + s % 3)
  whole = mul_assoc m (2 ^ (1 + s % 3)) (2 ^ 48) ∙ ap (λ (x : ℕ). m * x) (sym (pow-add 2 (1 + s % 3) 48) ∙ ap (λ (x : ℕ). 2 ^ x) (sum (s % 3)))
    where
      sum : (j : ℕ) → 1 + j + 48 ≡ 49 + j
      sum j = omega arith

  lo3 : t ^ 3 ≤ m * 2 ^ (49 + s % 3)
  lo3 = le_trans (le_of_eq (cube t)) (le_trans lo (le_of_eq whole))

  hi3 : m * 2 ^ (49 + s % 3) < (t + 1) ^ 3
  hi3 = lt_of_le_of_lt (le_of_eq (sym whole)) (lt_of_lt_of_le hi (le_of_eq (sym (cube (t + 1)))))

  pub cbrt-digits : (0x100_0000 ≤ t) × (t < 0x200_0000)
  cbrt-digits = root-digits 2 49 refl u m s t P lo3 hi3

  small3 : s / 3 + 76 ≤ 252
  small3 = omega (arith, P.far)

  pub cbrt-made : (b : Bool) → root_of_units 3 b u ≡ of_bits binary32 (cond b 0x8000_0000 0 + ((s / 3 + 76) * 0x80_0000 + (t + 1) / 2))
  cbrt-made b = root-made 2 49 refl u m s t P lo3 hi3 b (s / 3 + 76) (exponent (s / 3)) small3
    where
      exponent : (d : ℕ) → d + 126 - 50 ≡ d + 76
      exponent d = omega arith

-- ---- the special values
pub cbrt-nan : (x : Float) → x ≡ nan → x ≡ cbrt_of x
unfolding cbrt_of
cbrt-nan x e = rw e

pub cbrt-zero : (x : Float) → T (fits binary32 x) → to_bits binary32 x % 0x8000_0000 ≡ 0 → x ≡ cbrt_of x
unfolding cbrt_of
cbrt-zero x F e = subst (λ (y : Float). y ≡ cbrt_of y) (sym (by_zero binary32 x F e)) refl

pub cbrt-inf : (x : Float) → T (fits binary32 x) → T (not (is_nan x)) → 0x7f80_0000 ≤ to_bits binary32 x % 0x8000_0000 → x ≡ cbrt_of x
unfolding cbrt_of
cbrt-inf x F n h = subst (λ (y : Float). y ≡ cbrt_of y) (sym (by_inf binary32 x F n h)) refl

pub cbrt-finite : (x : Float) → T (fits binary32 x) → 0 < to_bits binary32 x % 0x8000_0000 → to_bits binary32 x % 0x8000_0000 < 0x7f80_0000
    → cbrt_of x ≡ root_of_units 3 (leb 0x8000_0000 (to_bits binary32 x)) (value_of binary32 (to_bits binary32 x % 0x8000_0000))
unfolding cbrt_of
cbrt-finite x F h k =
    let z = by_value binary32 x F h k in
    ap cbrt_of z.is ∙ ap (root_of_units 3 (leb 0x8000_0000 (to_bits binary32 x))) z.size

pub sqrt-nan : (x : Float) → x ≡ nan → x ≡ sqrt_of x
unfolding sqrt_of
sqrt-nan x e = rw e

pub sqrt-zero : (x : Float) → T (fits binary32 x) → to_bits binary32 x % 0x8000_0000 ≡ 0 → x ≡ sqrt_of x
unfolding sqrt_of
sqrt-zero x F e = subst (λ (y : Float). y ≡ sqrt_of y) (sym (by_zero binary32 x F e)) refl

pub sqrt-inf : (x : Float) → T (fits binary32 x) → T (not (is_nan x)) → to_bits binary32 x < 0x8000_0000
    → 0x7f80_0000 ≤ to_bits binary32 x % 0x8000_0000 → x ≡ sqrt_of x
unfolding sqrt_of
sqrt-inf x F n l h = subst (λ (y : Float). y ≡ sqrt_of y) (sym (by_inf binary32 x F n h ∙ ap inf (lt-leb 0x8000_0000 (to_bits binary32 x) l))) refl

pub sqrt-finite : (x : Float) → T (fits binary32 x) → to_bits binary32 x < 0x8000_0000 → 0 < to_bits binary32 x % 0x8000_0000
    → to_bits binary32 x % 0x8000_0000 < 0x7f80_0000
    → sqrt_of x ≡ root_of_units 2 false (value_of binary32 (to_bits binary32 x % 0x8000_0000))
unfolding sqrt_of
sqrt-finite x F l h k =
    let z = by_value binary32 x F h k in
    ap sqrt_of (z.is ∙ ap (λ (s : Bool). fin s (suc z.m) z.e) (lt-leb 0x8000_0000 (to_bits binary32 x) l)) ∙ ap (root_of_units 2 false) z.size

pub sqrt_negative : (x : Float) → T (fits binary32 x) → T (not (is_nan x)) → 0x8000_0000 ≤ to_bits binary32 x → 0 < to_bits binary32 x % 0x8000_0000
    → sqrt_of x ≡ nan
unfolding sqrt_of
sqrt_negative x F n l h =
    go (ltb (to_bits binary32 x % 0x8000_0000) 0x7f80_0000) (ltb→lt (to_bits binary32 x % 0x8000_0000) 0x7f80_0000)
    (nltb→le (to_bits binary32 x % 0x8000_0000) 0x7f80_0000)
  where
    go : (b : Bool) → (T b → to_bits binary32 x % 0x8000_0000 < 0x7f80_0000) → (T (not b) → 0x7f80_0000 ≤ to_bits binary32 x % 0x8000_0000)
        → sqrt_of x ≡ nan
    go true y w =
        let z = by_value binary32 x F h (y tt) in
        ap sqrt_of (z.is ∙ ap (λ (s : Bool). fin s (suc z.m) z.e) (le-leb 0x8000_0000 (to_bits binary32 x) l))
    go false y w = ap sqrt_of (by_inf binary32 x F n (w tt) ∙ ap inf (le-leb 0x8000_0000 (to_bits binary32 x) l))
