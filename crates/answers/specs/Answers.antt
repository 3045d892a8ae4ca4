-- What an answer says: document 01's number, 0 where the call is accepted, and the value. A call answers a `Result` whose error is a `Refusal`; `number_of` has each refusal's number, and
-- `said` what such an answer says. Definitions only.
use Rattle.std.specs.Prelude.{◌≡◌, List, [], ◌∷◌, ℕ, Result, Ok, Err, MatchResult, ⊤}
use Rattle.std.proofs.Math.Option.{Option, none, some}
use Rattle.sentences.specs.Sentences.{Sentence, ◌when◌, refusal, decided}
use Rattle.limits.specs.Limits.{bad_hues, bad_cell}
use Rattle.answers.specs.declared.refusal.Refusal.{Refusal}
use Rattle.answers.specs.declared.refusal.Refusal.TheVariants.{CardFile, Side, Hues, CellSize, Length, Count, Place, Number, Sigma, Model, Fit, Corrected, Page, Radius, Totals, Score}
use Rattle.answers.specs.declared.refusal.UnknownNumber.{UnknownNumber}

-- document 01's number of each refusal
abbrev pub number_of : Refusal → ℕ
number_of CardFile = 1
number_of Side = 2
number_of Hues = 3
number_of CellSize = 4
number_of Length = 5
number_of Count = 6
number_of Place = 7
number_of Number = 8
number_of Sigma = 9
number_of Model = 10
number_of Fit = 11
number_of Corrected = 12
number_of Page = 14
number_of Radius = 15
number_of Totals = 18
number_of Score = 19

-- the result is the refusal of this number, or an error with a number that no refusal has
abbrev pub Decodes : ℕ → Result Refusal UnknownNumber → Type 0
Decodes n r = MatchResult r (λ refusal. number_of refusal ≡ n) (λ e. (e.0 ≡ n) × ((refusal : Refusal) → number_of refusal ≡ n → ⊥))

-- ---- what an answer says

-- document 01's number, 0 where the call is accepted, and the value that it gives; a refusal gives none. Document 01 says: "No solution" and
-- "no local fit" are answers, not refusals. So the value of a call that solves is whether there is a solution, and the local fit, which
-- refuses nothing, answers an `Option`.
pub record Said (A : Type 0) : Type 0 where
  pub number : ℕ
  pub value : Option A

abbrev pub refused_by : {A : Type 0} → ℕ → Said A
refused_by n = record { number = n; value = none }

abbrev pub gives : {A : Type 0} → A → Said A
gives v = record { number = 0; value = some v }

-- v, or the number of the first sentence that holds
abbrev pub answered : {A : Type 0} → List Sentence → A → Said A
answered ss v = decided (refusal ss) refused_by (gives v)

-- what the result of a call says
abbrev pub said : {A : Type 0} → Result A Refusal → Said A
said (Ok v) = gives v
said (Err r) = refused_by (number_of r)

-- the number of a result: 0 where the call is accepted
abbrev pub outcome_number : {A : Type 0} → Result A Refusal → ℕ
outcome_number (Ok v) = 0
outcome_number (Err r) = number_of r

-- ---- a hue count alone, or with a cell

-- what a call that takes a hue count meets
abbrev pub hues_only : ℕ → List Sentence
hues_only k = (3 when bad_hues k) ∷ []

-- what a call meets that takes a hue count and a cell
abbrev pub hues_and_cell : ℕ → ℕ → ℕ → List Sentence
hues_and_cell k cx cy = (3 when bad_hues k) ∷ (7 when bad_cell cx cy) ∷ []

-- ---- calls that write one list

-- what such a call gives back: document 01's number and the list
pub record Ended (A : Type 0) : Type 0 where
  pub number : ℕ
  pub list : List A

abbrev pub ended : {A : Type 0} → Result ⊤ Refusal → List A → Ended A
ended r l = record { number = outcome_number r; list = l }

-- where a sentence holds, its number and the list as it was; else 0, and the list as it was written
abbrev pub written_or : {A : Type 0} → List Sentence → List A → List A → Ended A
written_or ss before after = decided (refusal ss) (λ n. record { number = n; list = before }) (record { number = 0; list = after })
