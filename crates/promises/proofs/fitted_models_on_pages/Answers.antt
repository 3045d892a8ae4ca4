-- `promises::fitted_models_on_pages` meets its contract: a model that passes sentence 10 has 4 or 9 terms, a fit keeps and rejects no more references than there are, at most 16,384, and scoring
-- counts no more modules than there are, at most 1,048,576. Assumes nothing.
use mathlib.Core.Path.{◌≡◌, ap, ◌∙◌}
use mathlib.Core.Logic.{◌⊎◌, ⊎_elim}
use mathlib.Core.Bool.{false}
use Prim.Native.Nat.{ℕ, ◌+◌, ◌≤◌}
use native.Mathlib.Omega.{arith}
use borrow.Author.Tests.{le-ltb}
use Rattle.sentences.proofs.Laws.{neither}
use Rattle.illum.specs.declared.IlluminationModel.{IlluminationModel}
use Rattle.illum.specs.Refusals.{bad_terms, bad_model_side, not_finite_model, bad_shape, bad_model}
use Rattle.fit.proofs.Law.{fit-sound, fit-accepted}
use Rattle.demod.specs.declared.ScoreReport.{ScoreReport}
use Rattle.answers.specs.Answers.{gives}
use Rattle.demod.specs.Call as scoring
use Rattle.demod.proofs.Accepted.{report_is}
use Rattle.demod.proofs.Outcome.{at_done}
use Rattle.page.specs.Calls.{bad_tally}
use Rattle.promises.proofs.Marks.{reported}
use Rattle.promises.proofs.fitted_models_on_pages.Goals as goal

four_or_nine : (m : IlluminationModel) → bad_model m ≡ false → bad_terms m.terms ≡ false
unfolding bad_model bad_shape
four_or_nine m h = (neither (bad_terms m.terms) (bad_model_side m.side) (neither (bad_shape m) (not_finite_model m) h).0).0

few : (k r n : ℕ) → (k ≡ 0) ⊎ (k + r ≡ n) → r ≤ n → n ≤ 16384 → (held : ℕ) → held ≤ 1048576 → bad_tally k r held ≡ false
unfolding bad_tally
few k r n e l h held m =
    let a : k ≤ 16384 = ⊎_elim (λ (z : k ≡ 0). omega arith) (λ (z : k + r ≡ n). omega arith) e in
    rw (le-ltb 16384 k a, le-ltb 16384 r (omega arith), le-ltb 1048576 held m)

module _ (s : scoring.Request) (r : ScoreReport) (e : (scoring.scored_of s).answer ≡ gives r) where
  modules-few : r.held_modules ≤ 1048576
  modules-few = omega (arith, (reported s r e).modules.most, (at_done s (e ∙ ap gives (report_is s r e))).fit.placed.modules-most)

pub returns : goal.returns
returns c =
    λ q s r e h.
    let f = fit-sound q in
    record { terms-good = four_or_nine _ (f.passes e); counts-good = few _ _ q.n (f.all e) (f.few e) (fit-accepted q e).few _ (modules-few s r h) }
