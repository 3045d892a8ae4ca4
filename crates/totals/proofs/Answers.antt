-- What each call gives by its sentences, and what holds of it: what is given can be handed in again, the totals of fit cards become those of more, and the mean is in lowest terms.
-- Assumes nothing.
use mathlib.Core.Path.{◌≡◌, refl, sym, ap, ap₂, ◌∙◌}
use mathlib.Core.Bool.{Bool, true, false, ◌||◌}
use mathlib.Core.List.{List, [], ◌∷◌, ◌++◌}
use Prim.Native.Nat.{ℕ, ◌+◌, ◌≤◌, ◌<◌}
use native.Mathlib.Nat.{add_comm}
use native.Mathlib.Omega.{arith}
use borrow.Author.Tests.{ltb-false, le-ltb}
use lib.Dec.{ltb}
use lib.ListN.{length}
use lib.Ieee.{Float}
use Rattle.sentences.specs.Sentences.{◌when◌, refusal, at, sound, fresh}
use Rattle.sentences.proofs.Laws.{neither, holds, passed, none}
use Rattle.std.specs.Prelude.{Result}
use Rattle.std.specs.Result.{IsErr, IsErrAnd}
use Rattle.answers.specs.declared.refusal.Refusal.{Refusal}
use Rattle.answers.specs.Answers.{number_of, said, gives, refused_by}
use Rattle.answers.proofs.Answers.{none_of, turned_away, says-refused, says-given, given-none-holds, given_is}
use Rattle.totals.proofs.Batches.{add_up}
use Rattle.totals.specs.declared.Totals.{Totals}
use Rattle.totals.specs.declared.Ratio.{Ratio}
use Rattle.totals.specs.Batch.{plus, of_card, of_cards, bad_totals, Good, FitCard, AllFit, nil, cons}
use Rattle.totals.specs.Calls.{full, card_sentences, add_card_of, CardAdded, too_many, totals_sentences, add_totals_of, BatchesAdded}
use Rattle.totals.specs.LowestTerms.{ratio_of, mean_sentences, mean_of, Lowest, MeanLowest}
use Rattle.totals.proofs.Shapes.{good, not-bad, nothing-good, both-good, plus-good}
use Rattle.totals.proofs.Batches.{plus_comm, batches-add, card_anywhere, card-good}
use Rattle.totals.proofs.Divisor.{ratio-none, lowest, only-lowest}

-- ---- the totals of fit cards are in their limits

cards_are : (cards : List (List Float)) → (of_cards cards).cards ≡ length cards
unfolding of_cards of_card
cards_are [] = refl
cards_are (c ∷ cs) = let h = cards_are cs in omega arith

one_of : (c : List Float) → (of_card c).cards ≡ 1
unfolding of_card
one_of c = refl

pub cards-good : (cards : List (List Float)) → AllFit cards → length cards ≤ 65535 → Good (of_cards cards)
unfolding of_cards
cards-good [] nil h = nothing-good
cards-good (c ∷ cs) (cons f r) h =
    plus-good (of_card c) (of_cards cs) (card-good c f) (cards-good cs r (omega arith)) (omega (arith, one_of c, cards_are cs))

-- ---- a card added

module _ (t : Totals) (luma : List Float) where
  pub card-away : (x : Result Totals Refusal) (r : Refusal) → IsErr x × IsErrAnd x (λ y. y ≡ r) → number_of r ≡ refusal (card_sentences t luma) → said x ≡ add_card_of t luma
  unfolding add_card_of
  card-away x r p e = turned_away (card_sentences t luma) (plus t (of_card luma)) x r p e

  -- no sentence holds
  module _ (e : 0 ≡ refusal (card_sentences t luma)) where
    pub card_sum : (s : Totals) → s ≡ plus t (of_card luma) → gives s ≡ add_card_of t luma
    unfolding add_card_of
    card_sum s h = says-given (card_sentences t luma) (plus t (of_card luma)) s e h

    unheld : (m : ℕ) → at m (card_sentences t luma) ≡ false
    unfolding card_sentences sound fresh
    unheld m = none_of (card_sentences t luma) refl 0 e refl m

    not_full : (bad_totals t ≡ false) × (ltb 65535 (t.cards + 1) ≡ false)
    unfolding card_sentences at full
    not_full = neither (bad_totals t) (ltb 65535 (t.cards + 1)) (unheld 18)

    pub good-before : Good t
    good-before = good t not_full.0

    pub room-before : t.cards < 65535
    room-before = omega (arith, ltb-false 65535 (t.cards + 1) not_full.1)

    pub fit-before : FitCard luma
    unfolding card_sentences at
    fit-before = record { short = ltb-false 1048576 (length luma) (unheld 6); scores = unheld 19 }

-- every sentence fails
none-met : (t : Totals) (luma : List Float) → Good t → t.cards < 65535 → FitCard luma → 0 ≡ refusal (card_sentences t luma)
unfolding card_sentences full refusal
none-met t luma g c f = rw (le-ltb 1048576 (length luma) f.short, not-bad t g, le-ltb 65535 (t.cards + 1) (omega arith), f.scores)

module _ (t : Totals) (luma : List Float) where
  taken : Good t → t.cards < 65535 → FitCard luma → add_card_of t luma ≡ gives (plus t (of_card luma))
  taken g c f = sym (card_sum t luma (none-met t luma g c f) (plus t (of_card luma)) refl)

  -- what is given: no sentence holds, and it is the sum
  module _ (u : Totals) (h : add_card_of t luma ≡ gives u) where
    unmet : refusal (card_sentences t luma) ≡ 0
    unfolding add_card_of
    unmet = given-none-holds (card_sentences t luma) (plus t (of_card luma)) u (sym h)

    is_sum : u ≡ plus t (of_card luma)
    unfolding add_card_of
    is_sum = given_is (card_sentences t luma) (plus t (of_card luma)) u (sym h)

    only : Good t × (t.cards < 65535) × FitCard luma
    only = (good-before t luma (sym unmet), room-before t luma (sym unmet), fit-before t luma (sym unmet))

    again : bad_totals u ≡ false
    again =
        let o = only in
        let c : t.cards + (of_card luma).cards ≤ 65535 = omega (arith, one_of luma, o.1) in
        rw is_sum (not-bad (plus t (of_card luma)) (plus-good t (of_card luma) o.0 (card-good luma o.2) c))

  batch : (xs ys : List (List Float)) → t ≡ of_cards (xs ++ ys) → AllFit (luma ∷ (xs ++ ys)) → length (xs ++ ys) < 65535
      → add_card_of t luma ≡ gives (of_cards (xs ++ luma ∷ ys))
  batch xs ys h (cons f r) l =
      taken (rw h (cards-good (xs ++ ys) r (omega arith))) (rw h (let k = cards_are (xs ++ ys) in omega arith)) f
      ∙ ap gives (ap (λ (x : Totals). plus x (of_card luma)) h ∙ card_anywhere xs ys luma)

  pub card-added : CardAdded t luma
  card-added = record { taken = taken; only = only; again = again; batch = batch }

-- ---- two batches added

or_swap : (a b c : Bool) → (a || (b || c)) ≡ (b || (a || c))
or_swap true true c = refl
or_swap true false c = refl
or_swap false true c = refl
or_swap false false c = refl

swap-bad : (a b : Totals) → too_many a b ≡ too_many b a
unfolding too_many
swap-bad a b =
    or_swap (bad_totals a) (bad_totals b) (ltb 65535 (a.cards + b.cards))
    ∙ ap (λ (k : ℕ). bad_totals b || (bad_totals a || ltb 65535 k)) (add_comm a.cards b.cards)

-- r is what the code's test gave
module _ (a b : Totals) (r : Bool) (e : r ≡ too_many a b) where
  pub totals-away : r ≡ true → refused_by 18 ≡ add_totals_of a b
  unfolding add_totals_of totals_sentences
  totals-away h = says-refused ((18 when too_many a b) ∷ []) (plus a b) 18 (holds 18 r (too_many a b) [] e h) (λ z. omega arith)

  pub totals_sum : (s : Totals) → r ≡ false → s ≡ plus a b → gives s ≡ add_totals_of a b
  unfolding add_totals_of totals_sentences
  totals_sum s h f = says-given ((18 when too_many a b) ∷ []) (plus a b) s (passed 18 r (too_many a b) [] 0 e h none) f

  pub both-before : r ≡ false → Good a × Good b × (a.cards + b.cards ≤ 65535)
  both-before h = both-good a b (sym e ∙ h)

module _ (a b : Totals) where
  module _ (u : Totals) (h : add_totals_of a b ≡ gives u) where
    few-before : too_many a b ≡ false
    unfolding add_totals_of totals_sentences sound fresh at
    few-before = none_of ((18 when too_many a b) ∷ []) refl _ refl (given-none-holds ((18 when too_many a b) ∷ []) (plus a b) u (sym h)) 18

    is_both : u ≡ plus a b
    unfolding add_totals_of
    is_both = given_is (totals_sentences a b) (plus a b) u (sym h)

    both-again : bad_totals u ≡ false
    both-again = let g = both-good a b few-before in rw is_both (not-bad (plus a b) (plus-good a b g.0 g.1 g.2))

  few : Good a → Good b → a.cards + b.cards ≤ 65535 → too_many a b ≡ false
  unfolding too_many
  few p q h = rw (not-bad a p, not-bad b q, le-ltb 65535 (a.cards + b.cards) h)

  batches : (xs ys : List (List Float)) → a ≡ of_cards xs → b ≡ of_cards ys → AllFit xs → AllFit ys → length xs + length ys ≤ 65535
      → add_totals_of a b ≡ gives (of_cards (xs ++ ys))
  batches xs ys p q f g h =
      let k : a.cards ≡ length xs = rw p (cards_are xs) in
      let m : b.cards ≡ length ys = rw q (cards_are ys) in
      let l = few (rw p (cards-good xs f (omega arith))) (rw q (cards-good ys g (omega arith))) (omega arith) in
      sym (totals_sum a b (too_many a b) refl (plus a b) l refl) ∙ ap gives (ap₂ plus p q ∙ sym (batches-add xs ys))

  swapped : add_totals_of a b ≡ add_totals_of b a
  unfolding add_totals_of totals_sentences
  swapped = rw (swap-bad a b, plus_comm a b)

  pub batches-added : BatchesAdded a b
  batches-added = record { again = both-again; batches = batches; swapped = swapped }

-- ---- the mean

module _ (t : Totals) where
  pub mean-away : (r : Bool) → r ≡ bad_totals t → r ≡ true → refused_by 18 ≡ mean_of t
  unfolding mean_of mean_sentences
  mean-away r e h = says-refused ((18 when bad_totals t) ∷ []) (ratio_of t) 18 (holds 18 r (bad_totals t) [] e h) (λ z. omega arith)

  pub mean-given : (r : Bool) (q : Ratio) → r ≡ bad_totals t → r ≡ false → q ≡ ratio_of t → gives q ≡ mean_of t
  unfolding mean_of mean_sentences
  mean-given r q e h f = says-given ((18 when bad_totals t) ∷ []) (ratio_of t) q (passed 18 r (bad_totals t) [] 0 e h none) f

  module _ (q : Ratio) (h : mean_of t ≡ gives q) where
    good-mean : Good t
    unfolding mean_of mean_sentences sound fresh at
    good-mean = good t (none_of ((18 when bad_totals t) ∷ []) refl _ refl (given-none-holds ((18 when bad_totals t) ∷ []) (ratio_of t) q (sym h)) 18)

    is_ratio : q ≡ ratio_of t
    unfolding mean_of
    is_ratio = given_is (mean_sentences t) (ratio_of t) q (sym h)

    is_lowest : Lowest t q
    is_lowest = rw is_ratio (lowest t good-mean)

  pub mean-lowest : MeanLowest t
  mean-lowest =
      record {
        lowest = is_lowest;
        unique = λ p q h m l. only-lowest t p q m l (is_lowest q h);
        none = λ q h z. is_ratio q h ∙ sym (ratio-none t z);
      }

-- ---- what the check finds by itself

pub ruleset means = (mean-away, mean-given, mean-lowest)

pub ruleset sums_of_totals = (totals-away, totals_sum, both-before, batches-added, add_up)
