-- Totals: of a card, of a batch, and of two batches; and sentence 18 of totals that are handed in. Definitions only.
use Rattle.std.specs.Prelude.{◌≡◌, Bool, false, cond, ◌||◌, ℕ, ◌+◌, ◌*◌, ◌^◌, ◌≤◌, ◌<◌, ltb, length, get_or, Float}
use mathlib.Core.List.{List, [], ◌∷◌, ◌++◌, Permᴰ}
use Rattle.std.specs.Float.{nan}
use Rattle.loops.specs.Loops.{any_up}
use Rattle.totals.specs.declared.Totals.{Totals}
use Rattle.totals.specs.Score.{unfit, undecided, under, parts_of}

abbrev pub totals : ℕ → ℕ → ℕ → ℕ → ℕ → Totals
totals cards modules undecided under sum = record { cards = cards; modules = modules; undecided = undecided; under = under; sum = sum }

abbrev pub nothing : Totals
nothing = totals 0 0 0 0 0

-- field by field
abbrev pub plus : Totals → Totals → Totals
plus a b = totals (a.cards + b.cards) (a.modules + b.modules) (a.undecided + b.undecided) (a.under + b.under) (a.sum + b.sum)

-- ---- a card: the list of its refined scores, one a module

abbrev pub one : Bool → ℕ
one b = cond b 1 0

-- how many scores are so
unfoldable pub count : (Float → Bool) → List Float → ℕ
count p [] = 0
count p (v ∷ vs) = one (p v) + count p vs

-- their magnitudes in 65,536ths
unfoldable pub sum_of : List Float → ℕ
sum_of [] = 0
sum_of (v ∷ vs) = parts_of v + sum_of vs

unfoldable pub of_card : List Float → Totals
of_card luma = totals 1 (length luma) (count undecided luma) (count under luma) (sum_of luma)

-- a batch of cards
unfoldable pub of_cards : List (List Float) → Totals
of_cards [] = nothing
of_cards (c ∷ cs) = plus (of_card c) (of_cards cs)

-- "Totals of two batches, the mean aside, add to the totals of both", however the cards are split; and their order does not matter
pub record AddUp : Type 0 where
  pub split : (xs ys : List (List Float)) → of_cards (xs ++ ys) ≡ plus (of_cards xs) (of_cards ys)
  pub any_order : (xs ys : List (List Float)) → Permᴰ xs ys → of_cards xs ≡ of_cards ys

-- a module more, of score v
unfoldable pub add_score : Float → Totals → Totals
add_score v t = totals t.cards (t.modules + 1) (t.undecided + one (undecided v)) (t.under + one (under v)) (t.sum + parts_of v)

-- room for one more module
pub record Room (t : Totals) : Type 0 where
  pub modules : t.modules < 2 ^ 40
  pub undecided : t.undecided < 2 ^ 40
  pub under : t.under < 2 ^ 40
  pub sum : t.sum < 2 ^ 60

-- ---- the sentences

-- 18: "totals handed in pass 1,048,576 modules a card, their modules in a count, or 1,310,720 a module in the sum", or are of a batch that has passed 65,535 cards
unfoldable pub bad_totals : Totals → Bool
bad_totals t =
    ltb 65535 t.cards
    || (ltb (1048576 * t.cards) t.modules
    || (ltb t.modules t.undecided
    || (ltb t.modules t.under || ltb (1310720 * t.modules) t.sum)))

-- where it does not hold
pub record Good (t : Totals) : Type 0 where
  pub cards : t.cards ≤ 65535
  pub modules : t.modules ≤ 1048576 * t.cards
  pub undecided : t.undecided ≤ t.modules
  pub under : t.under ≤ t.modules
  pub sum : t.sum ≤ 1310720 * t.modules

abbrev pub unfit_at : List Float → ℕ → Bool
unfit_at luma i = unfit (get_or luma i nan)

-- 19, of all scores of a card
abbrev pub unfit_in : List Float → Bool
unfit_in luma = any_up 0 (length luma) (unfit_at luma)

-- neither 6 nor 19 holds of the card
pub record FitCard (luma : List Float) : Type 0 where
  pub short : length luma ≤ 1048576
  pub scores : unfit_in luma ≡ false

-- of none of these cards
pub data AllFit : List (List Float) → Type 0 where
  nil : AllFit []
  cons : {c : List Float} {cs : List (List Float)} → FitCard c → AllFit cs → AllFit (c ∷ cs)
