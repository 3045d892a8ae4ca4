-- Pieces of one width, one after the other: the place of a byte is its piece's number times the width, and its place in the piece; and a line, its text padded. Both since nothing comes between.
-- Assumes nothing.
use mathlib.Core.Path.{◌≡◌, refl, sym, ap, ◌∙◌}
use mathlib.Core.List.{List, [], ◌∷◌, ◌++◌}
use Prim.Native.Nat.{ℕ, zero, suc, ◌+◌, ◌-◌, ◌*◌, ◌≤◌, ◌<◌}
use native.Mathlib.Omega.{arith}
use native.Mathlib.Nat.{mul-suc, mul-zero}
use lib.ListN.{length, get_or, replicate, length-append, length-replicate, get_or-replicate, get_or-append}
use lib.Seq.{get_or-append-add, get_or-append_seam}
use Rattle.listing.specs.Text.{rows, lines_below}
use Rattle.page.specs.Lines.{columns, line}

-- ---- a list behind another

pub behind : (a b : List ℕ) (n k : ℕ) → k ≡ length a + n → get_or (a ++ b) k 0 ≡ get_or b n 0
behind a b n k e = ap (λ (j : ℕ). get_or (a ++ b) j 0) e ∙ get_or-append-add a b n 0

-- ---- pieces

module _ (f : ℕ → List ℕ) (w : ℕ) (wide : (j : ℕ) → length (f j) ≡ w) where
  from-length : (k i : ℕ) → length (rows f k i) ≡ w * k
  unfolding rows
  from-length zero i = omega (arith, mul-zero w)
  from-length (suc k) i = length-append (f i) (rows f k (suc i)) ∙ (omega (arith, wide i, from-length k (suc i), mul-suc w k))

  from_at : (k i y x p : ℕ) → y < k → x < w → p ≡ w * y + x → get_or (rows f k i) p 0 ≡ get_or (f (i + y)) x 0
  unfolding rows
  from_at zero i y x p h l e = absurd (omega arith)
  from_at (suc k) i zero x p h l e =
      let q : p ≡ x = omega (arith, mul-zero w) in
      ap (λ (j : ℕ). get_or (f i ++ rows f k (suc i)) j 0) q
      ∙ get_or-append (f i) (rows f k (suc i)) 0 x (omega (arith, wide i))
      ∙ ap (λ (j : ℕ). get_or (f j) x 0) (omega arith)
  from_at (suc k) i (suc y) x p h l e =
      behind (f i) (rows f k (suc i)) (w * y + x) p (omega (arith, wide i, mul-suc w y))
      ∙ from_at k (suc i) y x (w * y + x) (omega arith) l refl
      ∙ ap (λ (j : ℕ). get_or (f j) x 0) (omega arith)

  pub pieces-length : (n : ℕ) → length (lines_below f n) ≡ w * n
  pieces-length n = from-length n 0

  pub piece_at : (n y x p : ℕ) → y < n → x < w → p ≡ w * y + x → get_or (lines_below f n) p 0 ≡ get_or (f y) x 0
  piece_at n y x p h l e = from_at n 0 y x p h l e ∙ ap (λ (j : ℕ). get_or (f j) x 0) (omega arith)

-- ---- a line

module _ (s : List ℕ) (h : length s ≤ columns) where
  pub line-length : length (line s) ≡ columns + 1
  unfolding line
  line-length =
      length-append s (replicate (columns - length s) 32 ++ (10 ∷ []))
      ∙ omega (arith, length-append {A = ℕ} (replicate (columns - length s) 32) (10 ∷ []), length-replicate {A = ℕ} (columns - length s) 32)

  pub line-text : (c : ℕ) → c < length s → get_or (line s) c 0 ≡ get_or s c 0
  unfolding line
  line-text c l = get_or-append s (replicate (columns - length s) 32 ++ (10 ∷ [])) 0 c l

  pub line-padding : (c : ℕ) → length s ≤ c → c < columns → get_or (line s) c 0 ≡ 32
  unfolding line
  line-padding c l m =
      behind s (replicate (columns - length s) 32 ++ (10 ∷ [])) (c - length s) c (omega arith)
      ∙ get_or-append (replicate (columns - length s) 32) (10 ∷ []) 0 (c - length s) (omega (arith, length-replicate {A = ℕ} (columns - length s) 32))
      ∙ get_or-replicate (columns - length s) (c - length s) 32 0 (omega arith)

  pub line-end : get_or (line s) columns 0 ≡ 10
  unfolding line
  line-end =
      behind s (replicate (columns - length s) 32 ++ (10 ∷ [])) (columns - length s) columns (omega arith)
      ∙ ap (λ (j : ℕ). get_or (replicate (columns - length s) 32 ++ (10 ∷ [])) j 0) (sym (length-replicate (columns - length s) 32))
      ∙ get_or-append_seam (replicate (columns - length s) 32) 10 [] 0
