-- Where there is room, what is written is the list itself and the rest is kept; and a listing has room in LISTING_ROOM bytes,
-- since a number below ten to the k has at most k digits. Assumes nothing.
use mathlib.Core.Path.{◌≡◌, refl, sym, ap, ◌∙◌}
use mathlib.Core.Bool.{Bool, true, false}
use mathlib.Core.List.{List, [], ◌∷◌, ◌++◌}
use Prim.Native.Nat.{ℕ, zero, suc, ◌+◌, ◌*◌, ◌/◌, ◌%◌, ◌^◌, ◌≤◌, ◌<◌}
use native.Mathlib.Omega.{arith}
use native.Mathlib.Numerals.{add-one}
use native.Mathlib.Nat.{div-lt_iff_lt-mul, mul-suc, pow-suc, add-zero}
use borrow.Author.Tests.{lt-ltb, ltb-true, ltb-false}
use lib.Dec.{ltb}
use lib.IntN.{ℤ, pos, negsuc}
use lib.Signed.{mag}
use lib.Ieee.{Float, nan}
use lib.ListN.{length, get_or, set, take, drop, length-append, length-set}
use lib.Seq.{sets, sets-eq}
use Rattle.listing.specs.Text.{text, byte, written, row, rows, lines_below}
use Rattle.listing.specs.Listing.{decimal, signed, hex_digit, hex, score_end, fit_line, luma_line, chroma_line, luma_line_at, chroma_line_at, listing, refused_line}
use Rattle.listing.proofs.Digits.{one_digit_is, more-digits_are}

-- ---- where there is room

stores : (bs : List ℕ) (at : ℕ) (out : List ℕ) → at + length bs ≤ length out → written bs (text at out) ≡ text (at + length bs) (sets out at bs)
unfolding written byte
stores [] at out h = ap (λ (n : ℕ). text n out) (sym (add-zero at))
stores (b ∷ bs) at out h =
    rw (lt-ltb at (length out) (omega arith))
    (stores bs (at + 1) (set out at b) (omega (arith, length-set out at b)) ∙
    ap (λ (n : ℕ). text n (sets (set out at b) (at + 1) bs)) (sum at (length bs)) ∙
    ap (λ (n : ℕ). text (at + suc (length bs)) (sets (set out at b) n bs)) (add-one at))
  where
    sum : (a n : ℕ) → a + 1 + n ≡ a + suc n
    sum a n = omega arith

-- the bytes at their place, what stood before and behind them as it was, and the place after them
pub in_full : (bs : List ℕ) (at : ℕ) (out : List ℕ) → at + length bs ≤ length out → written bs (text at out) ≡ text (at + length bs) (take at out ++ bs ++ drop (at + length bs) out)
in_full bs at out h = stores bs at out h ∙ ap (text (at + length bs)) (sets-eq bs out at h)

-- ---- how long the numbers are

by_digits : (n m : ℕ) (b : Bool) → ltb n 10 ≡ b → (10 ≤ n → length (decimal (n / 10)) ≤ m) → length (decimal n) ≤ suc m
by_digits n m true e h = rw (one_digit_is n (ltb-true n 10 e)) (omega arith)
by_digits n m false e h =
    let q = h (ltb-false n 10 e) in
    rw (more-digits_are n (ltb-false n 10 e), length-append (decimal (n / 10)) ((48 + n % 10) ∷ [])) (omega arith)

-- a number below 10 ^ (k + 1) has at most k + 1 digits
pub decimal-length : (k n : ℕ) → n < 10 ^ suc k → length (decimal n) ≤ suc k
decimal-length zero n h = by_digits n 0 (ltb n 10) refl (λ g. absurd (omega arith))
decimal-length (suc k) n h = by_digits n (suc k) (ltb n 10) refl (λ g. decimal-length k (n / 10) ((div-lt_iff_lt-mul (omega arith)).1 (rw (pow-suc 10 (suc k)) at h)))

hex-length : (k n : ℕ) → length (hex k n) ≡ k
unfolding hex
hex-length zero n = refl
hex-length (suc k) n = length-append (hex k (n / 16)) (hex_digit (n % 16) ∷ []) ∙ ap (λ (m : ℕ). m + 1) (hex-length k (n / 16)) ∙ add-one k

signed-length : (v : ℤ) → mag v < 32768 → length (signed v) ≤ 6
unfolding signed
signed-length (pos n) h = omega (arith, decimal-length 4 n (omega arith))
signed-length (negsuc n) h = omega (arith, decimal-length 4 (suc n) (omega arith))

-- ---- how long the lines are

row-length : (p : List ℕ) (ps : List (List ℕ)) → length (row (p ∷ ps)) ≡ length p + length (row ps)
unfolding row
row-length p ps = length-append p (row ps)

no_row : length (row []) ≡ 0
unfolding row
no_row = refl

pub end_length : (score : Float) (bit : ℕ) → bit < 10 → length (score_end score bit) ≤ 12
unfolding score_end
end_length score bit h =
    simp (row-length, no_row, hex-length) (omega (arith, decimal-length 0 bit h))

pub luma-length : (x y : ℤ) (score : Float) (bit : ℕ) → mag x < 32768 → mag y < 32768 → bit < 10 → length (luma_line x y score bit) ≤ 27
unfolding luma_line
luma-length x y score bit hx hy h =
    simp (row-length, no_row) (omega (arith, signed-length x hx, signed-length y hy, end_length score bit h))

pub chroma-length : (place : ℕ) (score : Float) (bit : ℕ) → place < 10000 → bit < 10 → length (chroma_line place score bit) ≤ 18
unfolding chroma_line
chroma-length place score bit p h =
    simp (row-length, no_row) (omega (arith, decimal-length 3 place p, end_length score bit h))

pub fit_length : (x y z : ℕ) → x < 10 ^ 20 → y < 10 ^ 20 → z < 10 ^ 20 → length (fit_line x y z) ≤ 67
unfolding fit_line
fit_length x y z a b c =
    simp (row-length, no_row) (omega (arith, decimal-length 19 x a, decimal-length 19 y b, decimal-length 19 z c))

rows-length : (f : ℕ → List ℕ) (w k i : ℕ) → ((j : ℕ) → i ≤ j → j < i + k → length (f j) ≤ w) → length (rows f k i) ≤ w * k
unfolding rows
rows-length f w zero i h = omega arith
rows-length f w (suc k) i h =
    let q = rows-length f w k (suc i) (λ j a b. h j (omega arith) (omega arith)) in
    let r = h i (omega arith) (omega arith) in
    simp (length-append) (omega (arith, mul-suc w k))

pub below_length : (f : ℕ → List ℕ) (w n : ℕ) → ((j : ℕ) → j < n → length (f j) ≤ w) → length (lines_below f n) ≤ w * n
below_length f w n h = rows-length f w n 0 (λ j a b. h j (omega arith))

-- ---- the listing of a card file: at most 1,020 modules and cells of 16 bytes stand in one, and a module or cell has at most four bits of a symbol

module _ (terms kept rejected m : ℕ) (xs ys : List ℤ) (luma : List Float) (bits : List ℕ) (places : ℕ) (chroma : List Float) (symbols : List ℕ) where
  pub record Sized : Type 0 where
    pub terms_in : terms < 10 ^ 20
    pub kept_in : kept < 10 ^ 20
    pub rejected_in : rejected < 10 ^ 20
    pub modules_in : m ≤ 1020
    pub places_in : places ≤ 4080
    pub xs_in : (i : ℕ) → i < m → mag (get_or xs i (pos 0)) < 32768
    pub ys_in : (i : ℕ) → i < m → mag (get_or ys i (pos 0)) < 32768
    pub bits_in : (i : ℕ) → i < m → get_or bits i 0 < 10
    pub symbols_in : (i : ℕ) → i < places → get_or symbols i 0 < 10

  pub listing-length : Sized → length (listing terms kept rejected m xs ys luma bits places chroma symbols) ≤ 101047
  unfolding listing
  listing-length h =
      let a = fit_length terms kept rejected h.terms_in h.kept_in h.rejected_in in
      let b = below_length (luma_line_at xs ys luma bits) 27 m (λ j l. luma-length (get_or xs j (pos 0)) (get_or ys j (pos 0)) (get_or luma j nan) (get_or bits j 0) (h.xs_in j l) (h.ys_in j l) (h.bits_in j l)) in
      let q = h.places_in in
      let c = below_length (chroma_line_at chroma symbols) 18 places (λ j l. chroma-length j (get_or chroma j nan) (get_or symbols j 0) (omega arith) (h.symbols_in j l)) in
      simp (row-length, no_row) (omega arith)

-- the line of a refusal
pub refused-length : (number : ℕ) → number < 10 ^ 20 → length (refused_line number) ≤ 29
unfolding refused_line
refused-length number h = simp (row-length, no_row) (omega (arith, decimal-length 19 number h))
