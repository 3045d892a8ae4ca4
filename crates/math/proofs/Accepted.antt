-- What a call knows past its sentences: a number of 0 says that neither holds, so every slice is long enough and the size is 1 to 18. Assumes nothing.
use mathlib.Core.Path.{◌≡◌, refl, sym, ap, ◌∙◌}
use mathlib.Core.Bool.{Bool, true, false, ◌||◌}
use mathlib.Core.List.{List}
use Prim.Native.Nat.{ℕ, ◌*◌, ◌≤◌, ◌<◌}
use native.Mathlib.Nat.{mul-le-mul}
use native.Mathlib.Omega.{arith}
use borrow.Author.Tests.{ltb-false}
use lib.Dec.{ltb}
use lib.Ieee.{Float}
use Rattle.sentences.specs.Sentences.{refusal, decided}
use Rattle.sentences.proofs.Laws.{neither, refuses, accepts}
use Rattle.answers.specs.declared.refusal.Refusal.{Refusal}
use Rattle.answers.specs.Answers.{number_of, gives}
use Rattle.answers.proofs.Answers as answers
use Rattle.math.specs.Gauss.{numbered, short_system, bad_size, Settled, settled, final, final_of}
use Rattle.math.specs.Normal.{short_pair, short_rows}

-- a matrix of at most 18 by 18 is within 324 elements
pub square-fits : (n l : ℕ) → n ≤ 18 → l ≡ 324 → n * n ≤ l
square-fits n l h e = omega (arith, mul-le-mul h h)

neither-holds : (s t : Bool) → 0 ≡ numbered s t → (s ≡ false) × (t ≡ false)
unfolding refusal
neither-holds true t e = absurd (omega arith)
neither-holds false true e = absurd (omega arith)
neither-holds false false e = (refl, refl)

-- what a call gives, where s and t are what its two tests said, and s' and t' the sentences
module _ {A : Type 0} (refused : ℕ → A) (accepted : A) (s t s' t' : Bool) (hs : s ≡ s') (ht : t ≡ t') where
  pub sent-away : (r : Refusal) → number_of r ≡ numbered s t → refused (number_of r) ≡ decided (numbered s' t') refused accepted
  sent-away r e = refuses refused accepted (number_of r) (numbered s' t') (answers.numbered r) (rw (← hs, ← ht) e)

  pub taken : 0 ≡ numbered s t → accepted ≡ decided (numbered s' t') refused accepted
  taken e = accepts refused accepted 0 (numbered s' t') refl (rw (← hs, ← ht) e)

-- an accepted answer, which says whether there is a solution
pub told : (f : Bool) (a b x : List Float) (g : Settled) → settled f a b x ≡ g → final (gives f) a b x ≡ final_of g
told f a b x g h = ap final_of h

-- s and t are what the two tests of an accepted call said
module _ (s t : Bool) (e : 0 ≡ numbered s t) where
  pub sized : (n : ℕ) → t ≡ bad_size n → n ≤ 18
  unfolding bad_size
  sized n h = ltb-false 18 n (neither (ltb n 1) (ltb 18 n) (sym h ∙ (neither-holds s t e).1)).1

  pub some-size : (n : ℕ) → t ≡ bad_size n → 0 < n
  unfolding bad_size
  some-size n h = ltb-false n 1 (neither (ltb n 1) (ltb 18 n) (sym h ∙ (neither-holds s t e).1)).0

  module _ (n a b x : ℕ) (h : s ≡ short_system n a b x) where
    tests : (ltb a (n * n) ≡ false) × (ltb b n || ltb x n ≡ false)
    unfolding short_system
    tests = neither (ltb a (n * n)) (ltb b n || ltb x n) (sym h ∙ (neither-holds s t e).0)

    pub matrix-fits : n * n ≤ a
    matrix-fits = ltb-false a (n * n) tests.0

    pub right-fits : n ≤ b
    right-fits = ltb-false b n (neither (ltb b n) (ltb x n) tests.1).0

    pub unknowns-fit : n ≤ x
    unknowns-fit = ltb-false x n (neither (ltb b n) (ltb x n) tests.1).1

  module _ (n p q : ℕ) (h : s ≡ short_pair n p q) where
    pub first_fits : n ≤ p
    unfolding short_pair
    first_fits = ltb-false p n (neither (ltb p n) (ltb q n) (sym h ∙ (neither-holds s t e).0)).0

    pub second_fits : n ≤ q
    unfolding short_pair
    second_fits = ltb-false q n (neither (ltb p n) (ltb q n) (sym h ∙ (neither-holds s t e).0)).1

  module _ (n rows targets x : ℕ) (h : s ≡ short_rows n rows targets x) where
    pub rows_fit : targets * n ≤ rows
    unfolding short_rows
    rows_fit = ltb-false rows (targets * n) (neither (ltb rows (targets * n)) (ltb x n) (sym h ∙ (neither-holds s t e).0)).0

    pub answers-fit : n ≤ x
    unfolding short_rows
    answers-fit = ltb-false x n (neither (ltb rows (targets * n)) (ltb x n) (sym h ∙ (neither-holds s t e).0)).1
