-- A list put into a row: one element more is put by each turn of the loop. Assumes nothing.
use Rattle.std.proofs.Common.{◌≡◌, ℕ, ◌+◌, ◌<◌, List, get_or, ap, ◌∙◌}
use Rattle.loops.proofs.Laws.{Left, turn_to}
use Rattle.vectors.specs.Answers.{Placed, put}
use Rattle.vectors.specs.Slices.{store_at}

-- one element more of a list, put as its word
pub put-more : {A : Type 0} (word : A → ℕ) (d : A) (values : List A) {n k : ℕ} {p t q : Placed} {w : ℕ} → Left (store_at word d values) n k p t → q ≡ put w p
    → w ≡ word (get_or values k d) → k < n → Left (store_at word d values) n (k + 1) q t
unfolding store_at
put-more word d values {p = p} inv e f h = turn_to inv h (e ∙ ap (λ (x : ℕ). put x p) f)
