-- `fit::fit_live` meets its contract: too few references; pass one refused or without a solution; or what comes after it. Assumes nothing.
use mathlib.Core.Path.{◌≡◌, sym, ap, ◌∙◌}
use mathlib.Core.List.{List}
use Prim.Native.Nat.{ℕ, ◌<◌, ◌≤◌}
use borrow.Author.Tests.{lt-ltb, le-ltb}
use lib.ListN.{length}
use lib.Ieee.{Float}
use Rattle.std.specs.Prelude.{Option, None, Some, Result, Ok, Err}
use Rattle.std.specs.Result.{IsErr, IsErrAnd}
use Rattle.std.proofs.lemmas.Option.{MatchOption-at_some}
use Rattle.answers.specs.declared.refusal.Refusal.{Refusal}
use Rattle.answers.proofs.Answers.{passed_on}
use Rattle.illum.specs.declared.IlluminationModel.{IlluminationModel}
use Rattle.illum.specs.Correct.{unit_model}
use Rattle.illum.specs.Refusals.{Modelled, modelled, model_said}
use Rattle.equations.specs.Live.{live_marks}
use Rattle.residuals.specs.Residual.{residuals_of}
use Rattle.fit.specs.Fit.{pass_of, ran, refitted, first_pass, fitted}
use Rattle.fit.proofs.fit_live.Goals as goal

-- `revive` writes ys
module _ (flat live ys : List Float) (n side terms : ℕ) (start : IlluminationModel) (es : start ≡ unit_model side terms) (ey : ys ≡ live_marks (length live)) (l : length live ≡ n) where
  marks : ys ≡ live_marks n
  marks = ey ∙ ap live_marks l

  few : n < 8 → ran (modelled 0 start) ys ≡ fitted flat n side terms
  unfolding fitted
  few h = ap (ran (modelled 0 start)) marks ∙ cc (lt-ltb n 8 h)

  -- past pass one
  module _ (h : 8 ≤ n) where
    at_first : (p : Result (Option IlluminationModel) Refusal) → p ≡ pass_of start flat ys n → first_pass start flat n p ≡ fitted flat n side terms
    unfolding fitted
    at_first p ep =
        ap (first_pass start flat n) (ep ∙ ap (λ (z : List Float). pass_of start flat z n) marks)
        ∙ ap (λ (m : IlluminationModel). first_pass m flat n (pass_of m flat (live_marks n) n)) es ∙ cc (le-ltb n 8 h)

    turned : (x : Result IlluminationModel Refusal) (r : Refusal) → IsErr x × IsErrAnd x (λ y. y ≡ r) → Err r ≡ pass_of start flat ys n
        → ran (model_said x) ys ≡ fitted flat n side terms
    turned x r q e = rw (passed_on x r q) (ap (ran (model_said (Err r))) marks ∙ at_first (Err r) e)

    module _ (o : Option IlluminationModel) (e : Ok o ≡ pass_of start flat ys n) where
      unsolved : o ≡ None → ran (modelled 0 start) ys ≡ fitted flat n side terms
      unsolved t = ap (ran (modelled 0 start)) marks ∙ at_first (Ok None) (ap Ok (sym t) ∙ e)

      goes_on : (k : IlluminationModel) (r : Modelled) (residuals live' : List Float) → o ≡ Some k → ran r live' ≡ refitted k flat residuals ys n → residuals ≡ residuals_of k flat n
          → ran r live' ≡ fitted flat n side terms
      goes_on k r residuals live' t er eq =
          er ∙ ap (λ (z : List Float). refitted k flat z ys n) eq ∙ ap (λ (z : List Float). refitted k flat (residuals_of k flat n) z n) marks
          ∙ at_first (Ok (Some k)) (ap Ok (sym t) ∙ e)

pub returns-then-references-lt8 : goal.returns-then-references-lt8
returns-then-references-lt8 c = few _ _ _ _ _ _ _ c.unit_model-start.ensures c.revive.ensures c.requires.lengths.0 c.if-references-lt8.true

pub returns-in_err-model : goal.returns-in_err-model
returns-in_err-model c =
    turned _ _ _ _ _ _ _ c.unit_model-start.ensures c.revive.ensures c.requires.lengths.0 c.if-references-lt8.false
    _ _ c.from_residual.ensures c.in_err-model.ensures.passed

pub returns-in_default : goal.returns-in_default
returns-in_default c =
    unsolved _ _ _ _ _ _ _ c.unit_model-start.ensures c.revive.ensures c.requires.lengths.0 c.if-references-lt8.false
    _ c.in_ok-model.ensures.passed c.in_default.is

pub returns : goal.returns
returns c =
    goes_on _ _ _ _ _ _ _ c.unit_model-start.ensures c.revive.ensures c.requires.lengths.0 c.if-references-lt8.false
    _ c.in_ok-model.ensures.passed _ _ _ _ c.in-Some.is c.refit.ensures
    (MatchOption-at_some _ _ _ c.in-Some.is c.in_ok-model.ensures.residuals)
