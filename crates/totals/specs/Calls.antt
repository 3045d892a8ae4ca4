-- The calls that add: their sentences in checking order, what they answer, and what holds of it. Definitions only.
use Rattle.std.specs.Prelude.{◌≡◌, Bool, false, ◌||◌, List, [], ◌∷◌, ◌++◌, ◌+◌, ◌≤◌, ◌<◌, ltb, length, Float}
use Rattle.sentences.specs.Sentences.{Sentence, ◌when◌}
use Rattle.answers.specs.Answers.{Said, gives, answered}
use Rattle.totals.specs.declared.Totals.{Totals}
use Rattle.totals.specs.Batch.{plus, of_card, of_cards, bad_totals, Good, unfit_in, FitCard, AllFit}

-- ---- a card added

-- 18: "the batch would pass 65,535 cards", or the totals pass a limit
unfoldable pub full : Totals → Bool
full t = bad_totals t || ltb 65535 (t.cards + 1)

unfoldable pub card_sentences : Totals → List Float → List Sentence
card_sentences t luma = (6 when ltb 1048576 (length luma)) ∷ (18 when full t) ∷ (19 when unfit_in luma) ∷ []

unfoldable pub add_card_of : Totals → List Float → Said Totals
add_card_of t luma = answered (card_sentences t luma) (plus t (of_card luma))

pub record CardAdded (t : Totals) (luma : List Float) : Type 0 where
  -- a card is taken exactly where it is fit by itself, and the totals are in their limits with room for a card more
  pub taken : Good t → t.cards < 65535 → FitCard luma → add_card_of t luma ≡ gives (plus t (of_card luma))
  pub only : (u : Totals) → add_card_of t luma ≡ gives u → Good t × (t.cards < 65535) × FitCard luma
  -- what is given can be handed in again
  pub again : (u : Totals) → add_card_of t luma ≡ gives u → bad_totals u ≡ false
  -- the totals of fit cards become those of one more, wherever it stands among them
  pub batch : (xs ys : List (List Float)) → t ≡ of_cards (xs ++ ys) → AllFit (luma ∷ (xs ++ ys)) → length (xs ++ ys) < 65535
      → add_card_of t luma ≡ gives (of_cards (xs ++ luma ∷ ys))

-- ---- two batches added

unfoldable pub too_many : Totals → Totals → Bool
too_many a b = bad_totals a || (bad_totals b || ltb 65535 (a.cards + b.cards))

unfoldable pub totals_sentences : Totals → Totals → List Sentence
totals_sentences a b = (18 when too_many a b) ∷ []

unfoldable pub add_totals_of : Totals → Totals → Said Totals
add_totals_of a b = answered (totals_sentences a b) (plus a b)

pub record BatchesAdded (a b : Totals) : Type 0 where
  -- what is given can be handed in again
  pub again : (u : Totals) → add_totals_of a b ≡ gives u → bad_totals u ≡ false
  -- the totals of two batches of fit cards, 65,535 at most, become those of both
  pub batches : (xs ys : List (List Float)) → a ≡ of_cards xs → b ≡ of_cards ys → AllFit xs → AllFit ys → length xs + length ys ≤ 65535
      → add_totals_of a b ≡ gives (of_cards (xs ++ ys))
  -- in either order
  pub swapped : add_totals_of a b ≡ add_totals_of b a
