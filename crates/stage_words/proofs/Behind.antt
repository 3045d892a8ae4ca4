-- What stands behind the words that are taken. Assumes nothing.
use Rattle.std.proofs.Common.{◌≡◌, ℕ, ◌+◌, List, drop, get_or, ap, ◌∙◌, add-zero}
use lib.Seq.{drop-drop, get_or-drop}

module _ (row : List ℕ) where
  pub behind : (a b n : ℕ) {r s : List ℕ} → r ≡ drop a row → s ≡ drop b r → a + b ≡ n → s ≡ drop n row
  behind a b n e f h = f ∙ ap (drop b) e ∙ drop-drop b a row ∙ ap (λ (m : ℕ). drop m row) h

  pub first_behind : (a : ℕ) {r : List ℕ} → r ≡ drop a row → get_or r 0 0 ≡ get_or row a 0
  first_behind a e = ap (λ (l : List ℕ). get_or l 0 0) e ∙ get_or-drop a row 0 0 ∙ ap (λ (i : ℕ). get_or row i 0) (add-zero a)
