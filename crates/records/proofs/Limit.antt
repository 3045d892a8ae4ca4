-- The record form is the flat form: up to 16,384 records all are copied, and above that sentence 2, 3, 5 or 6 decides before the floats are looked at. Assumes nothing.
use mathlib.Core.Path.{◌≡◌, refl, sym, ap, ◌∙◌}
use mathlib.Core.Bool.{Bool, true, false, not, cond, ◌||◌}
use mathlib.Core.List.{List, [], ◌∷◌, ◌++◌}
use Prim.Native.Nat.{ℕ, zero, suc, ◌*◌, ◌/◌, ◌%◌, ◌<◌, ◌≤◌}
use native.Mathlib.Omega.{arith}
use borrow.Author.Tests.{le-ltb}
use lib.Dec.{eqb}
use lib.ListN.{length, take}
use lib.Seq.{length-take-le, take_all}
use lib.Ieee.{Float}
use Rattle.sentences.specs.Sentences.{Sentence, ◌when◌, refusal, decided}
use Rattle.limits.specs.Limits.{bad_side, bad_hues}
use Rattle.illum.specs.declared.IlluminationModel.{IlluminationModel}
use Rattle.illum.specs.Refusals.{bad_model}
use Rattle.references.specs.References.{bad_positions, bad_colours, too_many, reference_placement}
use Rattle.references.proofs.Laws.{few_in}
use Rattle.fit.specs.Fit as fitting
use Rattle.fit.specs.Fit.{fit_of, fit_sentences, short}
use Rattle.measure.specs.Measure as measuring
use Rattle.measure.specs.Measure.{measure_of, sentences_for, too_short}
use Rattle.records.specs.declared.Reference.{Reference}
use Rattle.records.specs.Records.{flattened, copied}
use Rattle.records.proofs.Flattened.{as_many, none-cut, flattened-length}

-- ---- how many are copied

least : (b : Bool) (n : ℕ) → cond b 0 n ≤ n
least true n = omega arith
least false n = omega arith

pub copied-most : (n : ℕ) → copied n ≤ n
unfolding copied
copied-most n = least (too_many n) n

few : (b : Bool) (n : ℕ) → (b ≡ false → n ≤ 16384) → cond b 0 n ≤ 16384
few true n h = omega arith
few false n h = h refl

pub copied-few : (n : ℕ) → copied n ≤ 16384
unfolding copied
copied-few n = few (too_many n) n (few_in n)

-- the records that are copied fit in the array
pub room : (n m : ℕ) → m ≡ copied n → (m ≤ n) × (8 * m ≤ 131072)
room n m e = (omega (arith, copied-most n), omega (arith, copied-few n))

-- all are copied where there are not too many
pub all_lent : (ps : List Reference) (zs : List Float) → zs ≡ flattened (take (copied (length ps)) ps) → length ps ≤ 16384 → 8 * length ps ≤ length zs
unfolding copied too_many
all_lent ps zs e h =
    let q : copied (length ps) ≡ length ps = rw (le-ltb 16384 (length ps) h) in
    omega (arith, ap length e, flattened-length (take (copied (length ps)) ps), length-take-le (copied (length ps)) ps (copied-most (length ps)))

-- ---- a sentence that holds

-- every number is above 0
abbrev Numbered : List Sentence → Type 0
Numbered [] = Unit
Numbered (s ∷ ss) = (0 < s.number) × Numbered ss

-- no later sentence is tried then, and what an accepted call gives does not matter
module _ {A : Type 0} (refused : ℕ → A) (x y : A) where
  one : (b : Bool) (n j k : ℕ) → 0 < n → decided j refused x ≡ decided k refused y → decided (cond b n j) refused x ≡ decided (cond b n k) refused y
  unfolding decided
  one true zero j k h e = absurd (omega arith)
  one true (suc n) j k h e = refl
  one false n j k h e = e

  early : (ss more other : List Sentence) (n : ℕ) → Numbered ss → 0 < n
      → decided (refusal (ss ++ ((n when true) ∷ more))) refused x ≡ decided (refusal (ss ++ ((n when true) ∷ other))) refused y
  unfolding refusal decided
  early [] more other zero p h = absurd (omega arith)
  early [] more other (suc n) p h = refl
  early (s ∷ ss) more other n p h = one s.holds s.number _ _ p.0 (early ss more other n p.1 h)

-- ---- the floats zs that are handed on, ps being the records

module _ (ps : List Reference) (zs : List Float) (laid : zs ≡ flattened (take (copied (length ps)) ps)) where
  all_copied : too_many (length ps) ≡ false → copied (length ps) ≡ length ps
  unfolding copied
  all_copied h = rw h

  all_laid : too_many (length ps) ≡ false → zs ≡ flattened ps
  all_laid h = laid ∙ ap flattened (take_all (copied (length ps)) ps (omega (arith, all_copied h)))

  -- f does not look at the floats of too many records
  same : {X : Type 0} (f : List Float → X) → (too_many (length ps) ≡ true → (a b : List Float) → f a ≡ f b) → f (zs) ≡ f (flattened ps)
  same {X} f unread = either (too_many (length ps)) refl
    where
      either : (b : Bool) → too_many (length ps) ≡ b → f (zs) ≡ f (flattened ps)
      either true h = unread h (zs) (flattened ps)
      either false h = ap f (all_laid h)

as_flat : {X : Type 0} (ps : List Reference) (f : Bool → ℕ → X) → f false (length ps) ≡ f (not (eqb (length (flattened ps) % 8) 0)) (length (flattened ps) / 8)
as_flat ps f = ap (λ (b : Bool). f b (length ps)) (sym (none-cut ps)) ∙ ap (f (not (eqb (length (flattened ps) % 8) 0))) (sym (as_many ps))

-- ---- `fit`

module _ (n side version : ℕ) (kept : List ℕ) (scratch : List Float) where
  abbrev to_fit : List Float → fitting.Request
  to_fit flat = fitting.request flat false n side version kept scratch

  fit-unread : too_many n ≡ true → (a b : List Float) → fit_of (to_fit a) ≡ fit_of (to_fit b)
  unfolding fit_of fit_sentences reference_placement
  fit-unread h a b =
      rw h
      (early (fitting.turned_away (to_fit a)) (fitting.done (to_fit a)) (fitting.done (to_fit b)) ((2 when bad_side side) ∷ (5 when (false || short (length kept) (length scratch) n)) ∷ [])
      ((7 when bad_positions side a n) ∷ (8 when bad_colours a n) ∷ []) ((7 when bad_positions side b n) ∷ (8 when bad_colours b n) ∷ []) 6 (omega arith, (omega arith, tt)) (omega arith))

module _ (ps : List Reference) (zs : List Float) (laid : zs ≡ flattened (take (copied (length ps)) ps)) where
  pub fit-laid : (side version : ℕ) (kept : List ℕ) (scratch : List Float) → fit_of (fitting.request (zs) false (length ps) side version kept scratch) ≡ fit_of (fitting.flat_request (flattened ps) side version kept scratch)
  fit-laid side version kept scratch =
      same ps zs laid (λ (fl : List Float). fit_of (fitting.request fl false (length ps) side version kept scratch)) (fit-unread (length ps) side version kept scratch)
      ∙ as_flat ps (λ (cut : Bool) (n : ℕ). fit_of (fitting.request (flattened ps) cut n side version kept scratch))

-- ---- `measure`

module _ (n side : ℕ) (model : IlluminationModel) (palette : List Float) (hues : ℕ) (scratch : List Float) where
  abbrev to_measure : List Float → measuring.Request
  to_measure flat = measuring.request flat false n side model palette hues scratch

  abbrev later : List Float → List Sentence
  later flat =
      (7 when bad_positions side flat n) ∷
      (8 when measuring.wild_numbers flat n palette hues) ∷
      (10 when bad_model model) ∷
      (12 when measuring.bad_corrected model flat n) ∷
      []

  measure_unread : too_many n ≡ true → (a b : List Float) → measure_of (to_measure a) ≡ measure_of (to_measure b)
  unfolding measure_of sentences_for reference_placement
  measure_unread h a b =
      rw h
      (early (measuring.turned_away (to_measure a)) (measuring.done (to_measure a)) (measuring.done (to_measure b))
      ((2 when bad_side side) ∷ (3 when bad_hues hues) ∷ (5 when too_short false palette hues (length scratch) n) ∷ []) (later a) (later b) 6
      (omega arith, (omega arith, (omega arith, tt))) (omega arith))

module _ (ps : List Reference) (zs : List Float) (laid : zs ≡ flattened (take (copied (length ps)) ps)) where
  pub measure_laid : (side : ℕ) (model : IlluminationModel) (palette : List Float) (hues : ℕ) (scratch : List Float)
      → measure_of (measuring.request (zs) false (length ps) side model palette hues scratch) ≡ measure_of (measuring.flat_request (flattened ps) side model palette hues scratch)
  measure_laid side model palette hues scratch =
      same ps zs laid (λ (fl : List Float). measure_of (measuring.request fl false (length ps) side model palette hues scratch)) (measure_unread (length ps) side model palette hues scratch)
      ∙ as_flat ps (λ (cut : Bool) (n : ℕ). measure_of (measuring.request (flattened ps) cut n side model palette hues scratch))
