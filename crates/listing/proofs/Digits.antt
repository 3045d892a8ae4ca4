-- Digits, the last one taken off: a number of two digits or more has the digits of its tenth, then its last one. Assumes nothing.
use mathlib.Core.Path.{◌≡◌, refl, sym, ap}
use mathlib.Core.Bool.{Bool, true, false, cond}
use mathlib.Core.List.{List, [], ◌∷◌, ◌++◌}
use Prim.Native.Nat.{ℕ, zero, suc, ◌+◌, ◌-◌, ◌/◌, ◌%◌, ◌≤◌, ◌<◌}
use native.Mathlib.Omega.{arith}
use borrow.Author.Tests.{lt-ltb, le-ltb, ltb-false}
use lib.Dec.{ltb}
use Rattle.listing.specs.Listing.{digits, decimal, hex_digit}

if_not : {A : Type 0} (b c : Bool) (x y z : A) → b ≡ c → (c ≡ false → y ≡ z) → cond b x y ≡ cond b x z
if_not true c x y z e h = refl
if_not false c x y z e h = h (sym e)

-- any number of digits that is enough gives the same
enough : (k j n : ℕ) → n < k → n < j → digits k n ≡ digits j n
unfolding digits
enough zero j n h g = absurd (omega arith)
enough (suc k) zero n h g = absurd (omega arith)
enough (suc k) (suc j) n h g =
    if_not (ltb n 10) (ltb n 10) ((48 + n) ∷ []) (digits k (n / 10) ++ ((48 + n % 10) ∷ [])) (digits j (n / 10) ++ ((48 + n % 10) ∷ [])) refl
    (λ e. ap (λ (l : List ℕ). l ++ ((48 + n % 10) ∷ [])) (enough k j (n / 10) (omega (arith, ltb-false n 10 e)) (omega (arith, ltb-false n 10 e))))

pub one_digit_is : (n : ℕ) → n < 10 → decimal n ≡ (48 + n) ∷ []
unfolding decimal digits
one_digit_is n h = rw (lt-ltb n 10 h)

pub more-digits_are : (n : ℕ) → 10 ≤ n → decimal n ≡ decimal (n / 10) ++ ((48 + n % 10) ∷ [])
unfolding decimal digits
more-digits_are n h =
    rw (le-ltb n 10 h) (ap (λ (l : List ℕ). l ++ ((48 + n % 10) ∷ [])) (enough n (suc (n / 10)) (n / 10) (omega arith) (omega arith)))

-- ---- hexadecimal

pub digit_low : (d : ℕ) → d < 10 → 48 + d ≡ hex_digit d
unfolding hex_digit
digit_low d h = rw (lt-ltb d 10 h)

pub digit-high : (d : ℕ) → 10 ≤ d → 65 + (d - 10) ≡ hex_digit d
unfolding hex_digit
digit-high d h = rw (le-ltb d 10 h)
