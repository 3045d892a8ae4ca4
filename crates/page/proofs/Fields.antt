-- A number's field, byte by byte from its right end: the last digit is the remainder by ten, the bytes before it are the field of the tenth, one column narrower, and before the first digit there are spaces.
-- Assumes nothing.
use mathlib.Core.Path.{◌≡◌, refl, sym, ap, ◌∙◌}
use mathlib.Core.Bool.{Bool, true, false, cond}
use mathlib.Core.List.{List, [], ◌∷◌, ◌++◌, append_assoc}
use Prim.Native.Nat.{ℕ, zero, suc, ◌+◌, ◌-◌, ◌/◌, ◌%◌, ◌^◌, ◌≤◌, ◌<◌}
use native.Mathlib.Omega.{arith}
use native.Mathlib.Nat.{div-lt_iff_lt-mul, div-div-eq-div-mul, pow-suc, pow-succ'}
use borrow.Author.Tests.{ltb-true, ltb-false, lt-ltb, le-ltb}
use lib.Dec.{ltb}
use lib.ListN.{length, get_or, replicate, length-append, length-replicate, get_or-replicate, get_or-append}
use lib.Seq.{get_or-append_seam}
use Rattle.listing.specs.Listing.{decimal}
use Rattle.listing.proofs.Digits.{one_digit_is, more-digits_are}
use Rattle.listing.proofs.Room.{decimal-length}
use Rattle.page.specs.Lines.{field_columns, field}
use Rattle.page.specs.Steps.{field_byte}

either-space : (b : Bool) (v : ℕ) → v ≡ 32 → cond b 32 v ≡ 32
either-space true v e = refl
either-space false v e = e

either-more : (b : Bool) (v : ℕ) → 32 ≤ v → 32 ≤ cond b 32 v
either-more true v h = omega arith
either-more false v h = h

-- n in w columns
abbrev padded : ℕ → ℕ → List ℕ
padded w n = replicate (w - length (decimal n)) 32 ++ decimal n

padded-length : (w n : ℕ) → n < 10 ^ suc w → length (padded (suc w) n) ≡ suc w
padded-length w n h =
    length-append (replicate (suc w - length (decimal n)) 32) (decimal n)
    ∙ omega (arith, length-replicate {A = ℕ} (suc w - length (decimal n)) 32, decimal-length w n h)

-- of two digits or more
padded-more : (w n : ℕ) → 10 ≤ n → padded (suc w) n ≡ padded w (n / 10) ++ ((48 + n % 10) ∷ [])
padded-more w n h =
    rw (more-digits_are n h, length-append (decimal (n / 10)) ((48 + n % 10) ∷ []))
    (ap (λ (k : ℕ). replicate k 32 ++ (decimal (n / 10) ++ ((48 + n % 10) ∷ []))) (fewer w (length (decimal (n / 10))))
    ∙ sym (append_assoc (replicate (w - length (decimal (n / 10))) 32) (decimal (n / 10)) ((48 + n % 10) ∷ [])))
  where
    fewer : (w l : ℕ) → suc w - (l + 1) ≡ w - l
    fewer w l = omega arith

padded_one : (w n : ℕ) → n < 10 → padded (suc w) n ≡ replicate w 32 ++ ((48 + n) ∷ [])
padded_one w n h = rw (one_digit_is n h) (ap (λ (k : ℕ). replicate k 32 ++ ((48 + n) ∷ [])) (let z : suc w - 1 ≡ w = omega arith in z))

-- the last of w + 1 bytes, and one before it
last-at : (a : List ℕ) (v w : ℕ) → length a ≡ w → get_or (a ++ (v ∷ [])) w 0 ≡ v
last-at a v w e = ap (λ (j : ℕ). get_or (a ++ (v ∷ [])) j 0) (sym e) ∙ get_or-append_seam a v [] 0

-- k places from the right end, of one digit and of more
one_at : (w n k i : ℕ) → n < 10 → i + k ≡ w → get_or (padded (suc w) n) i 0 ≡ field_byte k n
unfolding field_byte
one_at w n zero i l e =
    rw (padded_one w n l)
    (ap (λ (j : ℕ). get_or (replicate w 32 ++ ((48 + n) ∷ [])) j 0) (let z : i ≡ w = omega arith in z) ∙ last-at (replicate w 32) (48 + n) w (length-replicate w 32) ∙ omega arith)
one_at w n (suc k) i l e =
    rw (padded_one w n l, lt-ltb n 10 l)
    (get_or-append (replicate w 32) ((48 + n) ∷ []) 0 i (omega (arith, length-replicate {A = ℕ} w 32)) ∙ get_or-replicate w i 32 0 (omega arith))

module _ (w n : ℕ) (l : 10 ≤ n) (h : n / 10 < 10 ^ suc w) (tenth-at : (k i : ℕ) → i + k ≡ w → get_or (padded (suc w) (n / 10)) i 0 ≡ field_byte k (n / 10)) where
  more_at : (k i : ℕ) → i + k ≡ suc w → get_or (padded (suc (suc w)) n) i 0 ≡ field_byte k n
  unfolding field_byte
  more_at zero i e =
      rw (padded-more (suc w) n l)
      (ap (λ (j : ℕ). get_or (padded (suc w) (n / 10) ++ ((48 + n % 10) ∷ [])) j 0) (let z : i ≡ suc w = omega arith in z)
      ∙ last-at (padded (suc w) (n / 10)) (48 + n % 10) (suc w) (padded-length w (n / 10) h))
  more_at (suc k) i e =
      rw (padded-more (suc w) n l, le-ltb n 10 l)
      (get_or-append (padded (suc w) (n / 10)) ((48 + n % 10) ∷ []) 0 i (omega (arith, padded-length w (n / 10) h)) ∙ tenth-at k i (omega arith))

tenth_below : (w n : ℕ) → n < 10 ^ suc (suc w) → n / 10 < 10 ^ suc w
tenth_below w n h = (div-lt_iff_lt-mul {k = 10} (omega arith)).1 (rw (pow-suc 10 (suc w)) at h)

padded_at : (w n k i : ℕ) → n < 10 ^ suc w → i + k ≡ w → get_or (padded (suc w) n) i 0 ≡ field_byte k n
padded_at zero n k i h e = one_at zero n k i (omega arith) e
padded_at (suc w) n k i h e = either (ltb n 10) refl (λ l m. more_at w n l m (λ j g. padded_at w (n / 10) j g m) k i e)
  where
    either : (b : Bool) → ltb n 10 ≡ b → (10 ≤ n → n / 10 < 10 ^ suc w → get_or (padded (suc (suc w)) n) i 0 ≡ field_byte k n) → get_or (padded (suc (suc w)) n) i 0 ≡ field_byte k n
    either true t more = one_at (suc w) n k i (ltb-true n 10 t) e
    either false t more = more (ltb-false n 10 t) (tenth_below w n h)

-- ---- ten columns

module _ (n : ℕ) (h : n < 10 ^ field_columns) where
  pub field-length : length (field n) ≡ field_columns
  unfolding field
  field-length = padded-length 9 n h

  pub field-at : (k i : ℕ) → i + k ≡ 9 → get_or (field n) i 0 ≡ field_byte k n
  unfolding field
  field-at k i e = padded_at 9 n k i h e

-- ---- what the byte is: the digit of 10 ^ k, and a space where there is none

pub byte-digit : (k n : ℕ) → 10 ^ k ≤ n → field_byte k n ≡ 48 + n / 10 ^ k % 10
unfolding field_byte
byte-digit zero n h = ap (λ (m : ℕ). 48 + m % 10) (let z : n ≡ n / 1 = omega arith in z)
byte-digit (suc k) n h =
    rw (le-ltb n 10 (omega (arith, pow-suc 10 k, pow_pos_10 k)))
    (byte-digit k (n / 10) (tenth_least k n h) ∙ ap (λ (m : ℕ). 48 + m % 10) (div-div-eq-div-mul n 10 (10 ^ k) ∙ ap (λ (m : ℕ). n / m) (sym (pow-succ' 10 k))))
  where
    pow_pos_10 : (k : ℕ) → 1 ≤ 10 ^ k
    pow_pos_10 zero = omega arith
    pow_pos_10 (suc k) = omega (arith, pow-suc 10 k, pow_pos_10 k)

    tenth_least : (k n : ℕ) → 10 ^ suc k ≤ n → 10 ^ k ≤ n / 10
    tenth_least k n h = let z = rw (pow-suc 10 k) at h in omega arith

pub byte-space : (k n : ℕ) → 0 < k → n < 10 ^ k → field_byte k n ≡ 32
unfolding field_byte
byte-space zero n z h = absurd (omega arith)
byte-space (suc zero) n z h = rw (lt-ltb n 10 (omega arith))
byte-space (suc (suc k)) n z h = either-space (ltb n 10) (field_byte (suc k) (n / 10)) (byte-space (suc k) (n / 10) (omega arith) (tenth_below k n h))

pub byte_last : (n : ℕ) → field_byte 0 n ≡ 48 + n % 10
unfolding field_byte
byte_last n = refl

-- no byte is a line feed
pub byte_no_feed : (k n : ℕ) → 32 ≤ field_byte k n
unfolding field_byte
byte_no_feed zero n = omega arith
byte_no_feed (suc k) n = either-more (ltb n 10) (field_byte k (n / 10)) (byte_no_feed k (n / 10))
