-- xor is associative, since it is so digit by digit; so a number that is put in twice drops out. Assumes nothing.
use mathlib.Core.Path.{◌≡◌, refl, sym, ap, ap₂, ◌∙◌}
use Prim.Native.Nat.{ℕ, zero, suc, ◌+◌, ◌*◌, ◌/◌, ◌%◌, ◌<◌}
use native.Mathlib.Nat.{div-add-mod', mod-lt}
use native.Mathlib.Omega.{arith}
use lib.Arith.{bin_ind}
use lib.Bits.{bit_xor, xor_shr, xor_mod, xor_self, xor_zero_r}

-- two numbers with the same half and the same low digit are the same
by_digits : (a b : ℕ) → a / 2 ≡ b / 2 → a % 2 ≡ b % 2 → a ≡ b
by_digits a b p q = sym (div-add-mod' a 2) ∙ ap₂ (λ (x y : ℕ). x * 2 + y) p q ∙ div-add-mod' b 2

digit_assoc : (x y z : ℕ) → x < 2 → y < 2 → z < 2 → bit_xor (bit_xor x y) z ≡ bit_xor x (bit_xor y z)
digit_assoc zero y z hx hy hz = refl
digit_assoc (suc zero) zero z hx hy hz = refl
digit_assoc (suc zero) (suc zero) zero hx hy hz = refl
digit_assoc (suc zero) (suc zero) (suc zero) hx hy hz = refl
digit_assoc (suc zero) (suc zero) (suc (suc z)) hx hy hz = absurd (omega arith)
digit_assoc (suc zero) (suc (suc y)) z hx hy hz = absurd (omega arith)
digit_assoc (suc (suc x)) y z hx hy hz = absurd (omega arith)

pub xor-half : (a b : ℕ) → bit_xor a b / 2 ≡ bit_xor (a / 2) (b / 2)
xor-half a b = xor_shr a b 1

xor-digit : (a b : ℕ) → bit_xor a b % 2 ≡ bit_xor (a % 2) (b % 2)
xor-digit a b = xor_mod a b 1

pub xor_assoc : (a b c : ℕ) → bit_xor (bit_xor a b) c ≡ bit_xor a (bit_xor b c)
xor_assoc =
    bin_ind (λ (a : ℕ). (b c : ℕ) → bit_xor (bit_xor a b) c ≡ bit_xor a (bit_xor b c)) (λ b c. refl)
    (λ a ih b c.
    by_digits (bit_xor (bit_xor a b) c) (bit_xor a (bit_xor b c))
    (xor-half (bit_xor a b) c ∙ ap (λ (x : ℕ). bit_xor x (c / 2)) (xor-half a b) ∙ ih (b / 2) (c / 2) ∙
    ap (bit_xor (a / 2)) (sym (xor-half b c)) ∙ sym (xor-half a (bit_xor b c)))
    (xor-digit (bit_xor a b) c ∙ ap (λ (x : ℕ). bit_xor x (c % 2)) (xor-digit a b) ∙
    digit_assoc (a % 2) (b % 2) (c % 2) (mod-lt a (omega arith)) (mod-lt b (omega arith)) (mod-lt c (omega arith)) ∙
    ap (bit_xor (a % 2)) (sym (xor-digit b c)) ∙ sym (xor-digit a (bit_xor b c))))

pub xor-twice : (a b : ℕ) → bit_xor (bit_xor a b) b ≡ a
xor-twice a b = xor_assoc a b b ∙ ap (bit_xor a) (xor_self b) ∙ xor_zero_r a
