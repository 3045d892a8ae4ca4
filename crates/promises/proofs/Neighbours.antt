-- The symbols of neighbouring hues differ in one bit. Of an even number and the next the halves are the same, so their codes differ at the lowest place alone; of an odd number and the next the halves are
-- neighbours again, and the codes agree at the lowest place. Assumes nothing.
use mathlib.Core.Path.{◌≡◌, refl, sym, ap, ◌∙◌, subst, subst₂}
use mathlib.Core.Logic.{⊎_elim}
use Prim.Native.Nat.{ℕ, zero, suc, ◌+◌, ◌*◌, ◌/◌, ◌%◌, ◌^◌, ◌≤◌, ◌<◌, suc-le-suc}
use native.Mathlib.Nat.{div-one, div-div-eq-div-mul, pow-succ', pow-suc, zero-lt-suc, mod-lt, mod-mod, mod_self, mod-eq_of_lt, mod-add-mod, add-mul-mod_self_right, eq-or-lt_of_le}
use native.Mathlib.Numerals.{add-one}
use native.Mathlib.Omega.{arith}
use lib.Bits.{xor_shr, xor_add_and}
use lib.Pow.{pow_pos}
use Rattle.symbols.specs.Gray.{gray, hue_to_chroma_symbol}
use Rattle.symbols.proofs.GrayCode.{gray_lt}
use Rattle.promises.specs.Symbols.{OneBitApart, NeighbouringHues}

-- ---- one bit apart, by the lowest place and the halves

lowest : (s : ℕ) → s / 2 ^ 0 % 2 ≡ s % 2
lowest s = ap (λ (x : ℕ). x % 2) (div-one s)

higher : (s b : ℕ) → s / 2 ^ suc b % 2 ≡ s / 2 / 2 ^ b % 2
higher s b = ap (λ (x : ℕ). s / x % 2) (pow-succ' 2 b) ∙ ap (λ (x : ℕ). x % 2) (sym (div-div-eq-div-mul s 2 (2 ^ b)))

module _ (q s t : ℕ) where
  at_lowest : (s % 2 ≡ t % 2 → ⊥) → s / 2 ≡ t / 2 → OneBitApart (suc q) s t
  at_lowest d e = record { place = 0; below = zero-lt-suc q; differ = λ p. d (sym (lowest s) ∙ p ∙ lowest t); agree = agree }
    where
      agree : (b : ℕ) → (b ≡ 0 → ⊥) → s / 2 ^ b % 2 ≡ t / 2 ^ b % 2
      agree zero n = absurd (n refl)
      agree (suc b) n = higher s b ∙ ap (λ (x : ℕ). x / 2 ^ b % 2) e ∙ sym (higher t b)

  in_halves : s % 2 ≡ t % 2 → OneBitApart q (s / 2) (t / 2) → OneBitApart (suc q) s t
  in_halves e r =
      record { place = suc r.place; below = suc-le-suc r.below; differ = λ p. r.differ (sym (higher s r.place) ∙ p ∙ higher t r.place); agree = agree }
    where
      agree : (b : ℕ) → (b ≡ suc r.place → ⊥) → s / 2 ^ b % 2 ≡ t / 2 ^ b % 2
      agree zero n = lowest s ∙ e ∙ sym (lowest t)
      agree (suc b) n = higher s b ∙ r.agree b (λ p. n (ap suc p)) ∙ sym (higher t b)

-- ---- the code's lowest place and its half

gray-lowest : (n : ℕ) → gray n % 2 ≡ (n + n / 2) % 2
unfolding gray
gray-lowest n = omega (arith, xor_add_and n (n / 2))

same_lowest : (n m a b : ℕ) → n + n / 2 + a * 2 ≡ m + m / 2 + b * 2 → gray n % 2 ≡ gray m % 2
same_lowest n m a b e =
    gray-lowest n ∙ sym (add-mul-mod_self_right (n + n / 2) a 2) ∙ ap (λ (x : ℕ). x % 2) e ∙ add-mul-mod_self_right (m + m / 2) b 2 ∙ sym (gray-lowest m)

parity_changes : (x : ℕ) → x % 2 ≡ (x + 1) % 2 → ⊥
parity_changes x e = omega arith

other-lowest : (n m : ℕ) → n + n / 2 + 1 ≡ m + m / 2 → gray n % 2 ≡ gray m % 2 → ⊥
other-lowest n m e p = parity_changes (n + n / 2) (sym (gray-lowest n) ∙ p ∙ gray-lowest m ∙ ap (λ (x : ℕ). x % 2) (sym e))

gray-half : (n : ℕ) → gray n / 2 ≡ gray (n / 2)
unfolding gray
gray-half n = xor_shr n (n / 2) 1

same_half : (n m : ℕ) → n / 2 ≡ m / 2 → gray n / 2 ≡ gray m / 2
same_half n m e = gray-half n ∙ ap gray e ∙ sym (gray-half m)

-- ---- a number below p and the next, which after the last is 0

data Next (p n m : ℕ) : Type 0 where
  up : n + 1 ≡ m → m < p → Next p n m
  around : n + 1 ≡ p → m ≡ 0 → Next p n m

next : (p h : ℕ) → 0 < p → Next p (h % p) ((h + 1) % p)
next p h pos =
    ⊎_elim (λ (e : suc (h % p) ≡ p). around (add-one (h % p) ∙ e) (sym (mod-add-mod h p 1) ∙ ap (λ (x : ℕ). x % p) (add-one (h % p) ∙ e) ∙ mod_self p))
    (λ (l : suc (h % p) < p). up (sym (mod-eq_of_lt (omega arith)) ∙ mod-add-mod h p 1) (mod-lt (h + 1) pos)) (eq-or-lt_of_le (mod-lt h pos))

next-half : (p n m : ℕ) → n % 2 ≡ 1 → Next (p * 2) n m → Next p (n / 2) (m / 2)
next-half p n m o (up e l) = up (omega arith) (omega arith)
next-half p n m o (around e z) = around (omega arith) (omega arith)

-- ---- the codes of a number and the next

even-apart : (q p n m : ℕ) → n % 2 ≡ 0 → Next (p * 2) n m → OneBitApart (suc q) (gray n) (gray m)
even-apart q p n m z (up e l) = at_lowest q (gray n) (gray m) (other-lowest n m (omega arith)) (same_half n m (omega arith))
even-apart q p n m z (around e y) = absurd (omega arith)

by_parity : (q p n m : ℕ) → Next (p * 2) n m → (n % 2 ≡ 1 → OneBitApart (suc q) (gray n) (gray m)) → OneBitApart (suc q) (gray n) (gray m)
by_parity q p n m h odd = ⊎_elim odd (λ (l : n % 2 < 1). even-apart q p n m (omega arith) h) (eq-or-lt_of_le bound)
  where
    bound : n % 2 ≤ 1
    bound = omega arith

one_and-zero : (n m : ℕ) → n % 2 ≡ 1 → Next 2 n m → OneBitApart 1 (gray n) (gray m)
one_and-zero n m o (up e l) = absurd (omega arith)
one_and-zero n m o (around e z) = at_lowest 0 (gray n) (gray m) (λ d. other-lowest m n (omega arith) (sym d)) (same_half n m (omega arith))

odd-lowest : (p n m : ℕ) → n % 2 ≡ 1 → Next (p * 2 * 2) n m → gray n % 2 ≡ gray m % 2
odd-lowest p n m o (up e l) = same_lowest n m 1 0 (omega arith)
odd-lowest p n m o (around e z) = same_lowest n m 1 (p * 3) (omega arith)

codes : (q n m : ℕ) → Next (2 ^ suc q) n m → OneBitApart (suc q) (gray n) (gray m)
codes zero n m h = by_parity 0 1 n m h (λ o. one_and-zero n m o h)
codes (suc q) n m h =
    by_parity (suc q) (2 ^ suc q) n m doubled
    (λ o.
    in_halves (suc q) (gray n) (gray m) (odd-lowest (2 ^ q) n m o (subst (λ (x : ℕ). Next (x * 2) n m) (pow-suc 2 q) doubled))
    (subst₂ (OneBitApart (suc q)) (sym (gray-half n)) (sym (gray-half m)) (codes q (n / 2) (m / 2) (next-half (2 ^ suc q) n m o doubled))))
  where
    doubled : Next (2 ^ suc q * 2) n m
    doubled = subst (λ (x : ℕ). Next x n m) (pow-suc 2 (suc q)) h

-- ---- symbols

symbol_is : (q h : ℕ) → hue_to_chroma_symbol h (2 ^ q) ≡ gray (h % 2 ^ q)
unfolding hue_to_chroma_symbol
symbol_is q h = mod-eq_of_lt (gray_lt q (h % 2 ^ q) (mod-lt h (pow_pos q)))

pub neighbours : NeighbouringHues
neighbours zero h pos = absurd (omega arith)
neighbours (suc q) h pos =
    subst₂ (OneBitApart (suc q)) (sym (symbol_is (suc q) h)) (sym (symbol_is (suc q) ((h + 1) % 2 ^ suc q) ∙ ap gray (mod-mod (h + 1) (2 ^ suc q))))
    (codes q (h % 2 ^ suc q) ((h + 1) % 2 ^ suc q) (next (2 ^ suc q) h (pow_pos (suc q))))
