-- `fit::refit` meets its contract: pass two from the model whose outliers are dropped: refused, without a solution, or the end. Assumes nothing.
use mathlib.Core.Path.{◌≡◌, sym, ap, ◌∙◌}
use mathlib.Core.List.{List}
use Prim.Native.Nat.{ℕ}
use lib.ListN.{length}
use lib.Ieee.{Float}
use Rattle.std.specs.Prelude.{Option, None, Some, Result, Ok, Err}
use Rattle.std.specs.Result.{IsErr, IsErrAnd}
use Rattle.answers.specs.declared.refusal.Refusal.{Refusal}
use Rattle.answers.proofs.Answers.{passed_on}
use Rattle.illum.specs.declared.IlluminationModel.{IlluminationModel}
use Rattle.illum.specs.Refusals.{modelled, model_said}
use Rattle.equations.specs.Live.{live_count}
use Rattle.fit.specs.Fit.{with_counts, pass_of, ran, concluded, dropped, dropped_of, second_pass, refitted}
use Rattle.fit.proofs.refit.Goals as goal

module _ (m first : IlluminationModel) (flat residuals live l₁ : List Float) (n : ℕ) (h : length residuals ≡ n) (ed : dropped first l₁ ≡ dropped_of m residuals live (length residuals)) where
  at_end : (p : Result (Option IlluminationModel) Refusal) → p ≡ pass_of first flat l₁ n → ran (concluded first l₁ n p) l₁ ≡ refitted m flat residuals live n
  unfolding refitted
  at_end p ep =
      ap (λ (q : Result (Option IlluminationModel) Refusal). ran (concluded first l₁ n q) l₁) ep ∙ ap (second_pass flat n) (ed ∙ ap (dropped_of m residuals live) h)

  turned : (x : Result IlluminationModel Refusal) (r : Refusal) → IsErr x × IsErrAnd x (λ y. y ≡ r) → Err r ≡ pass_of first flat l₁ n
      → ran (model_said x) l₁ ≡ refitted m flat residuals live n
  turned x r q e = rw (passed_on x r q) (at_end (Err r) e)

  module _ (o : Option IlluminationModel) (e : Ok o ≡ pass_of first flat l₁ n) where
    unsolved : o ≡ None → ran (modelled 0 first) l₁ ≡ refitted m flat residuals live n
    unsolved h = at_end (Ok None) (ap Ok (sym h) ∙ e)

    accepted : (k v : IlluminationModel) (count : ℕ) → o ≡ Some k → count ≡ live_count l₁ n → v ≡ with_counts k k.rejected count
        → ran (modelled 0 v) l₁ ≡ refitted m flat residuals live n
    accepted k v count h ec ev = ap (λ (z : IlluminationModel). ran (modelled 0 z) l₁) (ev ∙ ap (with_counts k k.rejected) ec) ∙ at_end (Ok (Some k)) (ap Ok (sym h) ∙ e)

pub returns-in_err-model : goal.returns-in_err-model
returns-in_err-model c = turned _ _ _ _ _ _ _ c.requires.lengths.1 c.drop_outliers-first.ensures _ _ c.from_residual.ensures c.in_err-model.ensures.passed

pub returns-in_default : goal.returns-in_default
returns-in_default c = unsolved _ _ _ _ _ _ _ c.requires.lengths.1 c.drop_outliers-first.ensures _ c.in_ok-model.ensures.passed c.in_default.is

pub returns : goal.returns
returns c =
    accepted _ _ _ _ _ _ _ c.requires.lengths.1 c.drop_outliers-first.ensures _ c.in_ok-model.ensures.passed _ _ _ c.in-Some.is
    c.count-kept.ensures.0 c.with_counts.ensures
