-- A fitted model and a scored card on a page (crates `fit`, `demod` and `page`). Definitions only.
use Rattle.std.specs.Prelude.{◌≡◌, false}
use Rattle.illum.specs.Refusals.{bad_terms}
use Rattle.fit.specs.Fit.{Request, fit_of}
use Rattle.demod.specs.declared.ScoreReport.{ScoreReport}
use Rattle.answers.specs.Answers.{gives}
use Rattle.demod.specs.Call as scoring
use Rattle.page.specs.Calls.{bad_tally}

-- of an accepted fit and of what an accepted `score` reports, the sentences of `page` that their numbers can break do not hold
pub record OnPage (q : Request) (r : ScoreReport) : Type 0 where
  pub terms-good : bad_terms (fit_of q).answer.model.terms ≡ false
  pub counts-good : bad_tally (fit_of q).answer.model.kept (fit_of q).answer.model.rejected r.held_modules ≡ false

abbrev pub FittedOnPages : Type 0
FittedOnPages = (q : Request) (s : scoring.Request) (r : ScoreReport) → (fit_of q).answer.number ≡ 0 → (scoring.scored_of s).answer ≡ gives r → OnPage q r
