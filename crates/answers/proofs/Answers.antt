-- What a call answers by the number that its sentences give, and what it knows where they give 0: that none of them holds. Assumes nothing.
use mathlib.Core.Path.{◌≡◌, refl, sym, ap, ◌∙◌}
use mathlib.Core.Bool.{Bool, true, false}
use mathlib.Core.List.{List, [], ◌++◌}
use mathlib.Core.Option.{none-ne-some, some-injective}
use Prim.Native.Nat.{ℕ, zero, suc, ◌≤◌, ◌<◌}
use native.Mathlib.Omega.{arith}
use Rattle.sentences.specs.Sentences.{Sentence, refusal, decided, at, sound, fresh}
use Rattle.sentences.proofs.Laws.{refuses, accepts, ahead, holds, passed, none, none-holds}
use Rattle.limits.specs.Limits.{bad_hues}
use Rattle.limits.proofs.Laws.{hues_in}
use Rattle.std.specs.Prelude.{Result, Ok, Err, ⊤}
use Rattle.std.specs.Result.{IsErr, IsErrAnd}
use Rattle.std.proofs.lemmas.Result.{err_from_is_err_and}
use Rattle.answers.specs.declared.refusal.Refusal.{Refusal}
use Rattle.answers.specs.declared.refusal.Refusal.TheVariants.{CardFile, Side, Hues, CellSize, Length, Count, Place, Number, Sigma, Model, Fit, Corrected, Page, Radius, Totals, Score}
use Rattle.answers.specs.Answers.{number_of, refused_by, gives, said, outcome_number, answered, hues_only, hues_and_cell, Ended, ended, written_or}

-- ---- no refusal has the number 0

pub numbered : (r : Refusal) → number_of r ≡ 0 → ⊥
numbered CardFile e = omega arith
numbered Side e = omega arith
numbered Hues e = omega arith
numbered CellSize e = omega arith
numbered Length e = omega arith
numbered Count e = omega arith
numbered Place e = omega arith
numbered Number e = omega arith
numbered Sigma e = omega arith
numbered Model e = omega arith
numbered Fit e = omega arith
numbered Corrected e = omega arith
numbered Page e = omega arith
numbered Radius e = omega arith
numbered Totals e = omega arith
numbered Score e = omega arith

-- where the number is 0, no sentence holds
pub none_of : (ss : List Sentence) → sound ss ≡ true → (n : ℕ) → n ≡ refusal ss → n ≡ 0 → (m : ℕ) → at m ss ≡ false
none_of ss p n e z m = none-holds ss p m (sym z ∙ e)

-- ---- what an answer says, for any value

module _ {A : Type 0} (ss : List Sentence) (v : A) (n : ℕ) (e : n ≡ refusal ss) where
  pub says-refused : (n ≡ 0 → ⊥) → refused_by n ≡ answered ss v
  says-refused z = refuses refused_by (gives v) n (refusal ss) z e

module _ {A : Type 0} (ss : List Sentence) (v : A) where
  pub says-given : (r : A) → 0 ≡ refusal ss → r ≡ v → gives r ≡ answered ss v
  says-given r e h = ap gives h ∙ accepts refused_by (gives v) 0 (refusal ss) refl e

-- ---- a result that is passed on by `?`

pub passed_on : {A : Type 0} (x : Result A Refusal) (r : Refusal) → IsErr x × IsErrAnd x (λ y. y ≡ r) → x ≡ Err r
passed_on x r e = let p = err_from_is_err_and x e.1 in rw p.1 (rw p.2)

-- a test whose `?` passes the refusal on
module _ (x : Result ⊤ Refusal) (r : Refusal) (p : IsErr x × IsErrAnd x (λ y. y ≡ r)) where
  pub number_on : (n : ℕ) → number_of r ≡ n → outcome_number x ≡ n
  number_on n e = rw (passed_on x r p) e

  -- of the first group of a list that is joined
  pub ahead_on : (a b : List Sentence) → sound a ≡ true → number_of r ≡ refusal a → outcome_number x ≡ refusal (a ++ b)
  ahead_on a b s e = rw (passed_on x r p) (ahead (number_of r) a b s e (numbered r))

-- what a call gives by its number, where `?` passes the refusal on, and where it does not
module _ {A B : Type 0} (refused : ℕ → A) (accepted : A) (x : Result B Refusal) (r : Refusal) where
  pub refuses_on : (n : ℕ) → IsErr x × IsErrAnd x (λ y. y ≡ r) → number_of r ≡ n → refused (said x).number ≡ decided n refused accepted
  refuses_on n p e = rw (passed_on x r p) (refuses refused accepted (number_of r) n (numbered r) e)

module _ {A : Type 0} (ss : List Sentence) (v : A) (x : Result A Refusal) (r : Refusal) where
  pub turned_away : IsErr x × IsErrAnd x (λ y. y ≡ r) → number_of r ≡ refusal ss → said x ≡ answered ss v
  turned_away p e = rw (passed_on x r p) (says-refused ss v (number_of r) e (numbered r))

-- for callers, by the number that the sentences give
module _ {A : Type 0} (v : A) where
  said-number : (n : ℕ) → (decided n refused_by (gives v)).number ≡ n
  unfolding decided
  said-number zero = refl
  said-number (suc n) = refl

  given_at : (r : A) (n : ℕ) → gives r ≡ decided n refused_by (gives v) → (n ≡ 0) × (r ≡ v)
  unfolding decided
  given_at r zero e = (refl, some-injective r v (ap (λ s. s.value) e))
  given_at r (suc n) e = absurd (none-ne-some r (sym (ap (λ s. s.value) e)))

  refused_at : (k n : ℕ) → refused_by k ≡ decided n refused_by (gives v) → (k ≡ n) × (n ≡ 0 → ⊥)
  unfolding decided
  refused_at k zero e = absurd (none-ne-some v (ap (λ s. s.value) e))
  refused_at k (suc n) e = (ap (λ s. s.number) e, λ z. omega arith)

module _ {A : Type 0} (ss : List Sentence) (v : A) where
  -- the number that is said is that of the first sentence that holds
  pub number_is : (answered ss v).number ≡ refusal ss
  number_is = said-number v (refusal ss)

  -- an answer with a value: no sentence holds, and the value is v
  pub given-none-holds : (r : A) → gives r ≡ answered ss v → refusal ss ≡ 0
  given-none-holds r e = (given_at v r (refusal ss) e).0

  pub given_is : (r : A) → gives r ≡ answered ss v → r ≡ v
  given_is r e = (given_at v r (refusal ss) e).1

  -- a refusal: its number is that of the first sentence that holds, which is not 0
  pub refused_is : (k : ℕ) → refused_by k ≡ answered ss v → k ≡ refusal ss
  refused_is k e = (refused_at v k (refusal ss) e).0

  pub refused-above : (k : ℕ) → refused_by k ≡ answered ss v → refusal ss ≡ 0 → ⊥
  refused-above k e = (refused_at v k (refusal ss) e).1

-- ---- a hue count alone, or with a cell

module _ {A : Type 0} (k : ℕ) (v : A) (r : Bool) (e : r ≡ bad_hues k) where
  pub hues-refused : r ≡ true → refused_by 3 ≡ answered (hues_only k) v
  hues-refused t = says-refused (hues_only k) v 3 (holds 3 r (bad_hues k) [] e t) (λ z. omega arith)

  pub hues-given : (x : A) → r ≡ false → x ≡ v → gives x ≡ answered (hues_only k) v
  hues-given x t h = says-given (hues_only k) v x (passed 3 r (bad_hues k) [] 0 e t none) h

-- a hue count that passed
module _ (k : ℕ) (r : Bool) (e : r ≡ bad_hues k) (t : r ≡ false) where
  pub hues-some : 0 < k
  hues-some = (hues_in k (sym e ∙ t)).least

  pub hues-few : k ≤ 16
  hues-few = (hues_in k (sym e ∙ t)).most

module _ (k cx cy : ℕ) (e : 0 ≡ refusal (hues_and_cell k cx cy)) where
  cell-hues : bad_hues k ≡ false
  unfolding at sound fresh
  cell-hues = none_of (hues_and_cell k cx cy) refl 0 e refl 3

  pub cell-hues-some : 0 < k
  cell-hues-some = hues-some k false (sym cell-hues) refl

  pub cell-hues-few : k ≤ 16
  cell-hues-few = hues-few k false (sym cell-hues) refl

-- ---- a list

module _ {A : Type 0} (ss : List Sentence) (before after : List A) where
  pub list-kept : (r : Refusal) (l : List A) → number_of r ≡ refusal ss → l ≡ before → ended (Err r) l ≡ written_or ss before after
  list-kept r l e h =
      ap (λ (k : List A). record { number = number_of r; list = k }) h ∙
      refuses (λ m. record { number = m; list = before }) (record { number = 0; list = after }) (number_of r) (refusal ss) (numbered r) e

  pub list_on : (x : Result ⊤ Refusal) (r : Refusal) (l : List A) → IsErr x × IsErrAnd x (λ y. y ≡ r) → number_of r ≡ refusal ss → l ≡ before →
      ended x l ≡ written_or ss before after
  list_on x r l p e h = rw (passed_on x r p) (list-kept r l e h)

  pub list_written : (l : List A) → 0 ≡ refusal ss → l ≡ after → ended (Ok tt) l ≡ written_or ss before after
  list_written l e h = ap (λ (k : List A). record { number = 0; list = k }) h ∙ accepts (λ m. record { number = m; list = before }) (record { number = 0; list = after }) 0 (refusal ss) refl e

-- ---- for callers: what an answer says of the sentences and of the list

-- by the number n
module _ {A : Type 0} (before after : List A) where
  abbrev pub outcome_by : ℕ → Ended A
  outcome_by n = decided n (λ m. record { number = m; list = before }) (record { number = 0; list = after })

  same_number : (n : ℕ) → (outcome_by n).number ≡ n
  unfolding decided
  same_number zero = refl
  same_number (suc n) = refl

  at_nought : (n : ℕ) → n ≡ 0 → (outcome_by n).list ≡ after
  unfolding decided
  at_nought zero e = refl
  at_nought (suc n) e = absurd (omega arith)

  at_more : (n : ℕ) → (n ≡ 0 → ⊥) → (outcome_by n).list ≡ before
  unfolding decided
  at_more zero e = absurd (e refl)
  at_more (suc n) e = refl

module _ {A : Type 0} (ss : List Sentence) (before after : List A) where
  -- the number that is given is that of the first sentence that holds
  pub list-number : (written_or ss before after).number ≡ refusal ss
  list-number = same_number before after (refusal ss)

  -- done: no sentence holds, and the list is written
  pub list_done : (written_or ss before after).number ≡ 0 → (0 ≡ refusal ss) × ((written_or ss before after).list ≡ after)
  list_done h =
      let e = sym list-number ∙ h in
      (sym e, at_nought before after (refusal ss) e)

  -- refused by n: the list is as it was
  pub list-refused : (n : ℕ) → (n ≡ 0 → ⊥) → (written_or ss before after).number ≡ n → (n ≡ refusal ss) × ((written_or ss before after).list ≡ before)
  list-refused n z h =
      let e = sym h ∙ list-number in
      (e, at_more before after (refusal ss) (λ w. z (e ∙ w)))
