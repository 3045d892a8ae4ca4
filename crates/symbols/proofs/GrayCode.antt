-- Gray code and its inverse undo each other: n xor n/2, and g xor g/2 xor g/4 .., halve as their arguments do, and what is put in twice drops out. Over powers of two so do the symbols and hues. Assumes nothing.
use mathlib.Core.Path.{◌≡◌, refl, sym, ap, ap₂, ◌∙◌}
use Prim.Native.Nat.{ℕ, zero, suc, ◌/◌, ◌%◌, ◌^◌, ◌≤◌, ◌<◌}
use native.Mathlib.Nat.{le_refl, mod-lt, mod-eq_of_lt, div-le_self, lt_of_le_of_lt}
use native.Mathlib.Decide.{le_ind}
use native.Mathlib.Omega.{arith}
use lib.Arith.{bin_ind, half_le}
use lib.Bits.{bit_xor, xor_lt}
use lib.Pow.{pow_pos}
use Rattle.symbols.specs.Gray.{gray, xor_shifts, gray_inverse, chroma_symbol_to_hue, hue_to_chroma_symbol}
use Rattle.symbols.proofs.Xor.{xor-half, xor-twice}

-- ---- the inverse, one digit at a time

more : (k g : ℕ) → g ≤ k → xor_shifts (suc k) g ≡ xor_shifts k g
unfolding xor_shifts
more zero zero h = refl
more zero (suc g) h = absurd (omega arith)
more (suc k) zero h = refl
more (suc k) (suc g) h = ap (bit_xor (suc g)) (more k (suc g / 2) (half_le h))

enough : (k g : ℕ) → g ≤ k → xor_shifts k g ≡ xor_shifts g g
enough k g h = le_ind (λ (m : ℕ). xor_shifts m g ≡ xor_shifts g g) refl (λ m l e. more m g l ∙ e) k h

pub inverse_step : (g : ℕ) → gray_inverse g ≡ bit_xor g (gray_inverse (g / 2))
unfolding gray_inverse xor_shifts
inverse_step zero = refl
inverse_step (suc g) = ap (bit_xor (suc g)) (enough g (suc g / 2) (half_le (le_refl (suc g))))

pub inverse_of_zero : gray_inverse 0 ≡ 0
unfolding gray_inverse xor_shifts
inverse_of_zero = refl

inverse-half : (g : ℕ) → gray_inverse g / 2 ≡ gray_inverse (g / 2)
inverse-half =
    bin_ind (λ (g : ℕ). gray_inverse g / 2 ≡ gray_inverse (g / 2)) (ap (λ (x : ℕ). x / 2) inverse_of_zero ∙ sym inverse_of_zero)
    (λ g ih. ap (λ (x : ℕ). x / 2) (inverse_step g) ∙ xor-half g (gray_inverse (g / 2)) ∙ ap (bit_xor (g / 2)) ih ∙ sym (inverse_step (g / 2)))

gray-half : (n : ℕ) → gray n / 2 ≡ gray (n / 2)
unfolding gray
gray-half n = xor-half n (n / 2)

-- ---- they undo each other

pub gray_of_inverse : (g : ℕ) → gray (gray_inverse g) ≡ g
unfolding gray
gray_of_inverse g =
    ap₂ bit_xor (inverse_step g) (inverse-half g) ∙ xor-twice g (gray_inverse (g / 2))

gray-again : (n : ℕ) → gray_inverse (gray (n / 2)) ≡ n / 2 → gray_inverse (gray n) ≡ n
unfolding gray
gray-again n ih =
    inverse_step (gray n) ∙ ap (λ (x : ℕ). bit_xor (gray n) (gray_inverse x)) (gray-half n) ∙ ap (bit_xor (gray n)) ih ∙ xor-twice n (n / 2)

pub inverse_of_gray : (n : ℕ) → gray_inverse (gray n) ≡ n
unfolding gray
inverse_of_gray = bin_ind (λ (n : ℕ). gray_inverse (gray n) ≡ n) inverse_of_zero gray-again

-- ---- below a power of two they stay below it

half-below : (n m : ℕ) → n < m → n / 2 < m
half-below n m h = lt_of_le_of_lt (div-le_self n 2) h

pub gray_lt : (q n : ℕ) → n < 2 ^ q → gray n < 2 ^ q
unfolding gray
gray_lt q n h = xor_lt q n (n / 2) h (half-below n (2 ^ q) h)

pub inverse_lt : (q g : ℕ) → g < 2 ^ q → gray_inverse g < 2 ^ q
inverse_lt q =
    bin_ind (λ (g : ℕ). g < 2 ^ q → gray_inverse g < 2 ^ q) (λ h. rw inverse_of_zero h)
    (λ g ih h. rw (inverse_step g) (xor_lt q g (gray_inverse (g / 2)) h (ih (half-below g (2 ^ q) h))))

-- ---- symbols and hues, of 2 ^ q

module _ (q : ℕ) where
  pub hue_lt : (s : ℕ) → chroma_symbol_to_hue s (2 ^ q) < 2 ^ q
  unfolding chroma_symbol_to_hue
  hue_lt s = mod-lt (gray_inverse (s % 2 ^ q)) (pow_pos q)

  pub symbol_lt : (h : ℕ) → hue_to_chroma_symbol h (2 ^ q) < 2 ^ q
  unfolding hue_to_chroma_symbol
  symbol_lt h = mod-lt (gray (h % 2 ^ q)) (pow_pos q)

  hue_is : (s : ℕ) → s < 2 ^ q → chroma_symbol_to_hue s (2 ^ q) ≡ gray_inverse s
  unfolding chroma_symbol_to_hue
  hue_is s h = ap (λ (x : ℕ). gray_inverse x % 2 ^ q) (mod-eq_of_lt h) ∙ mod-eq_of_lt (inverse_lt q s h)

  symbol_is : (h : ℕ) → h < 2 ^ q → hue_to_chroma_symbol h (2 ^ q) ≡ gray h
  unfolding hue_to_chroma_symbol
  symbol_is h l = ap (λ (x : ℕ). gray x % 2 ^ q) (mod-eq_of_lt l) ∙ mod-eq_of_lt (gray_lt q h l)

  pub symbol_of_hue : (s : ℕ) → s < 2 ^ q → hue_to_chroma_symbol (chroma_symbol_to_hue s (2 ^ q)) (2 ^ q) ≡ s
  symbol_of_hue s h = symbol_is (chroma_symbol_to_hue s (2 ^ q)) (hue_lt s) ∙ ap gray (hue_is s h) ∙ gray_of_inverse s

  pub hue_of_symbol : (h : ℕ) → h < 2 ^ q → chroma_symbol_to_hue (hue_to_chroma_symbol h (2 ^ q)) (2 ^ q) ≡ h
  hue_of_symbol h l = hue_is (hue_to_chroma_symbol h (2 ^ q)) (symbol_lt h) ∙ ap gray_inverse (symbol_is h l) ∙ inverse_of_gray h
