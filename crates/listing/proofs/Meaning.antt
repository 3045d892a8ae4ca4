-- The digits read back give the number: the last digit is the remainder, the others are those of the quotient. And document 01's listing, byte for byte. Assumes nothing.
use mathlib.Core.Path.{◌≡◌, refl, ◌∙◌}
use mathlib.Core.Bool.{Bool, true, false, cond}
use mathlib.Core.List.{List, [], ◌∷◌, ◌++◌}
use Prim.Native.Nat.{ℕ, zero, suc, ◌+◌, ◌-◌, ◌*◌, ◌/◌, ◌%◌, ◌^◌, ◌≤◌, ◌<◌}
use native.Mathlib.Omega.{arith}
use native.Mathlib.Nat.{div-lt_iff_lt-mul, pow-suc}
use borrow.Author.Tests.{ltb-true, ltb-false, lt-ltb, le-ltb}
use lib.Dec.{ltb}
use lib.IntN.{pos}
use lib.Ieee.{binary32, of_bits, to_bits}
use Rattle.listing.specs.Text.{row, rows}
use Rattle.listing.specs.Listing.{digits, decimal, signed, hex_digit, hex, score_end, fit_line, luma_line, listing, refused_line}
use Rattle.listing.proofs.Digits.{one_digit_is, more-digits_are, digit_low, digit-high}

-- the number that digits stand for, the highest first, by what one digit stands for
unfoldable pub number : ℕ → (ℕ → ℕ) → ℕ → List ℕ → ℕ
number base value n [] = n
number base value n (d ∷ ds) = number base value (n * base + value d) ds

last_digit : (base : ℕ) (value : ℕ → ℕ) (n : ℕ) (l : List ℕ) (d : ℕ) → number base value n (l ++ (d ∷ [])) ≡ number base value n l * base + value d
unfolding number
last_digit base value n [] d = refl
last_digit base value n (x ∷ l) d = last_digit base value (n * base + value x) l d

-- '0' to '9'
abbrev pub decimal_value : ℕ → ℕ
decimal_value d = d - 48

-- '0' to '9' and 'A' to 'F'
abbrev pub hex_value : ℕ → ℕ
hex_value d = cond (ltb d 58) (d - 48) (d - 55)

-- ---- decimal

one : (n : ℕ) → number 10 decimal_value 0 ((48 + n) ∷ []) ≡ n
unfolding number
one n = omega arith

from_tenth : (n m : ℕ) (b : Bool) → ltb n 10 ≡ b → (10 ≤ n → number 10 decimal_value 0 (decimal (n / 10)) ≡ n / 10) → number 10 decimal_value 0 (decimal n) ≡ n
from_tenth n m true e h = rw (one_digit_is n (ltb-true n 10 e)) (one n)
from_tenth n m false e h =
    let g = ltb-false n 10 e in
    let q = h g in
    rw (more-digits_are n g, last_digit 10 decimal_value 0 (decimal (n / 10)) (48 + n % 10)) (omega arith)

below : (k n : ℕ) → n < k → number 10 decimal_value 0 (decimal n) ≡ n
below zero n h = absurd (omega arith)
below (suc k) n h = from_tenth n k (ltb n 10) refl (λ g. below k (n / 10) (omega arith))

pub decimal_means : (n : ℕ) → number 10 decimal_value 0 (decimal n) ≡ n
decimal_means n = below (suc n) n (omega arith)

-- ---- hexadecimal

value-back : (d : ℕ) (b : Bool) → ltb d 10 ≡ b → d < 16 → hex_value (hex_digit d) ≡ d
value-back d true e h =
    let g = ltb-true d 10 e in
    rw (← digit_low d g, lt-ltb (48 + d) 58 (omega arith)) (omega arith)
value-back d false e h =
    let g = ltb-false d 10 e in
    rw (← digit-high d g, le-ltb (65 + (d - 10)) 58 (omega arith)) (omega arith)

pub hex_means : (k n : ℕ) → n < 16 ^ k → number 16 hex_value 0 (hex k n) ≡ n
unfolding hex number
hex_means zero n h = omega arith
hex_means (suc k) n h =
    let q = hex_means k (n / 16) ((div-lt_iff_lt-mul (omega arith)).1 (rw (pow-suc 16 k) at h)) in
    let r = value-back (n % 16) (ltb (n % 16) 10) refl (omega arith) in
    last_digit 16 hex_value 0 (hex k (n / 16)) (hex_digit (n % 16)) ∙ sum (number 16 hex_value 0 (hex k (n / 16))) (hex_value (hex_digit (n % 16))) n q r
  where
    sum : (a b n : ℕ) → a ≡ n / 16 → b ≡ n % 16 → a * 16 + b ≡ n
    sum a b n e f = omega arith

-- ---- document 01's case: fit 4 0 0, L 0 0 41A00000 1, L 1 0 C1A00000 1

pub the-case : listing 4 0 0 2 (pos 0 ∷ pos 1 ∷ []) (pos 0 ∷ pos 0 ∷ []) (of_bits binary32 0x41a00000 ∷ of_bits binary32 0xc1a00000 ∷ []) (1 ∷ 1 ∷ []) 0 [] [] ≡
    102 ∷ 105 ∷ 116 ∷ 32 ∷ 52 ∷ 32 ∷ 48 ∷ 32 ∷ 48 ∷ 10 ∷
    76 ∷ 32 ∷ 48 ∷ 32 ∷ 48 ∷ 32 ∷ 52 ∷ 49 ∷ 65 ∷ 48 ∷ 48 ∷ 48 ∷ 48 ∷ 48 ∷ 32 ∷ 49 ∷ 10 ∷
    76 ∷ 32 ∷ 49 ∷ 32 ∷ 48 ∷ 32 ∷ 67 ∷ 49 ∷ 65 ∷ 48 ∷ 48 ∷ 48 ∷ 48 ∷ 48 ∷ 32 ∷ 49 ∷ 10 ∷ []
unfolding listing fit_line luma_line score_end row rows digits decimal signed hex_digit hex of_bits to_bits
the-case = refl

-- refused 11
pub a_refusal : refused_line 11 ≡ 114 ∷ 101 ∷ 102 ∷ 117 ∷ 115 ∷ 101 ∷ 100 ∷ 32 ∷ 49 ∷ 49 ∷ 10 ∷ []
unfolding refused_line row digits decimal
a_refusal = refl
