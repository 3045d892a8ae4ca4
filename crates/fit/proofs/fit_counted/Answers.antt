-- `fit::fit_counted` meets its contract: the number that was found, or what the passes give, with the kept references marked by the live ones and
-- the scratch that they used cleared.
-- Assumes nothing.
use mathlib.Core.Path.{◌≡◌, refl, sym, ap, ap₂, ◌∙◌}
use mathlib.Core.Bool.{false}
use mathlib.Core.List.{List, ◌++◌}
use Prim.Native.Nat.{ℕ, ◌*◌, ◌≤◌}
use native.Mathlib.Omega.{arith}
use lib.ListN.{length, take, drop, replicate, length-append, length-drop}
use lib.Seq.{length-take-le, drop_at}
use lib.Ieee.{Float}
use Rattle.sentences.specs.Sentences.{refusal}
use Rattle.order.specs.Median.{zero32}
use Rattle.order.specs.Deviation.{cleared}
use Rattle.std.specs.Prelude.{Result, Ok, Err}
use Rattle.sentences.proofs.Laws.{refuses, accepts}
use Rattle.answers.specs.declared.refusal.Refusal.{Refusal}
use Rattle.answers.specs.Answers.{number_of}
use Rattle.answers.proofs.Answers.{numbered}
use Rattle.illum.specs.declared.IlluminationModel.{IlluminationModel}
use Rattle.illum.specs.Correct.{no_model}
use Rattle.illum.specs.Refusals.{Modelled, modelled, refused_model, model_said}
use Rattle.fit.specs.Fit.{ran, fitted, terms_for, marks_of, marks_left, fit_sentences, final, left, request, fit_of}
use Rattle.fit.proofs.Accepted.{accepted, sent_back, taken}
use Rattle.fit.proofs.fit_counted.Goals as goal
use Rattle.fit.proofs.fit_counted.Goals.{in-Ok, in_default}

-- kept and s are lent, and no sentence holds
module _ (flat s : List Float) (kept : List ℕ) (n side : ℕ) (e : 0 ≡ refusal (fit_sentences flat false n side (length kept) (length s))) where
  room : 4 * n ≤ length s
  room = (accepted flat false n side (length kept) (length s) e).room

  four : 4 * n ≡ length (take (4 * n) s)
  four = sym (length-take-le (4 * n) s room)

  -- t is s whose first 4 × n numbers the passes used
  past : (u t : List Float) → t ≡ u ++ drop (4 * n) s → length t ≡ length s → cleared (4 * n) t ≡ cleared (4 * n) s
  past u t e l =
      let k : length u ≡ 4 * n = omega (arith, sym (length-append u (drop (4 * n) s)) ∙ ap length (sym e) ∙ l, length-drop (4 * n) s, room) in
      ap (λ (z : List Float). replicate (4 * n) zero32 ++ z) (ap (drop (4 * n)) e ∙ drop_at u (drop (4 * n) s) (4 * n) k)

  -- and t' what is left after clearing it; live are the marks that the passes leave
  module _ (live u t t' : List Float) (version terms : ℕ) (after : List ℕ) (x : Result IlluminationModel Refusal) (et : terms ≡ terms_for version) (eu : t ≡ u ++ drop (4 * n) s) (lt : length t ≡ length s)
      (ec : t' ≡ cleared (4 * n) t) where
    ends : (r : Modelled) → ran r live ≡ fitted flat n side terms → after ≡ marks_left r.number r.model.kept live n kept → final r after t' ≡ fit_of (request flat false n side version kept s)
    ends r er ek =
        ap₂ (final r) ek (ec ∙ past u t eu lt) ∙ ap (left n kept s) (er ∙ ap (fitted flat n side) et)
        ∙ taken (request flat false n side version kept s) e

    -- the marks are written by a fit that is accepted, and stay by one that is refused
    written : (m : IlluminationModel) → x ≡ Ok m → ran (modelled 0 m) live ≡ fitted flat n side terms → length live ≡ n → (marks : List ℕ) → after ≡ marks
        → marks ≡ marks_of m.kept live (length live) kept → final (model_said x) after t' ≡ fit_of (request flat false n side version kept s)
    unfolding marks_left
    written m ex er h marks em ek =
        rw ex
        (ends (modelled 0 m) er (em ∙ ek ∙ ap (λ (k : ℕ). marks_of m.kept live k kept) h ∙ accepts (λ (j : ℕ). kept) (marks_of m.kept live n kept) 0 0 refl refl))

    stayed : (r : Refusal) (y : Result IlluminationModel Refusal) → x ≡ y → y ≡ Err r → ran (refused_model (number_of r)) live ≡ fitted flat n side terms → after ≡ kept
        → final (model_said x) after t' ≡ fit_of (request flat false n side version kept s)
    unfolding marks_left
    stayed r y ey ex er ek =
        rw (ey ∙ ex) (ends (refused_model (number_of r)) er (ek ∙ refuses (λ (j : ℕ). kept) (marks_of no_model.kept live n kept) (number_of r) (number_of r) (numbered r) refl))

pub returns-in_err-check : goal.returns-in_err-check
returns-in_err-check c = sent_back _ _ _ c.from_residual.ensures c.in_err-check.ensures

pub slice_bounds-split_at_mut-end : goal.slice_bounds-split_at_mut-end
slice_bounds-split_at_mut-end c = room _ _ _ _ _ c.in_ok-check.ensures

pub slice_bounds-split_at_mut-end-2 : goal.slice_bounds-split_at_mut-end-2
slice_bounds-split_at_mut-end-2 c = four _ _ _ _ _ c.in_ok-check.ensures

pub split_at_mut-live-requires : goal.split_at_mut-live-requires
split_at_mut-live-requires c = omega (arith, four _ _ _ _ _ c.in_ok-check.ensures)

pub split_at_mut-residuals-requires : goal.split_at_mut-residuals-requires
split_at_mut-residuals-requires c = omega (arith, four _ _ _ _ _ c.in_ok-check.ensures, c.split_at_mut-live.ensures.back_len)

pub fit_live-fitted-requires-clause-lengths : goal.fit_live-fitted-requires-clause-lengths
fit_live-fitted-requires-clause-lengths c = (
  c.split_at_mut-live.ensures.front_len,
  c.split_at_mut-residuals.ensures.front_len,
  omega (arith, four _ _ _ _ _ c.in_ok-check.ensures, c.split_at_mut-live.ensures.back_len, c.split_at_mut-residuals.ensures.back_len),
)

pub fit_live-fitted-requires-clause-side : goal.fit_live-fitted-requires-clause-side
fit_live-fitted-requires-clause-side c = (accepted _ _ _ _ _ _ c.in_ok-check.ensures).side-most

pub fit_live-fitted-requires-clause-few : goal.fit_live-fitted-requires-clause-few
fit_live-fitted-requires-clause-few c = (accepted _ _ _ _ _ _ c.in_ok-check.ensures).few

pub write_marks-requires : goal.write_marks-requires
write_marks-requires c = omega (arith, (accepted _ _ _ _ _ _ c.in_ok-check.ensures).a_mark-each, c.split_at_mut-live.ensures.front_len, c.fit_live-fitted.auto.live)

pub overflow_mul-n : goal.overflow_mul-n
overflow_mul-n c = omega (arith, (accepted _ _ _ _ _ _ c.in_ok-check.ensures).few)

pub invariant_of-references : goal.invariant_of-references
invariant_of-references c =
    record { stand = c.requires (accepted _ _ _ _ _ _ c.in_ok-check.ensures).few }

pub clear-requires : goal.clear-requires
clear-requires c = omega (arith, (accepted _ _ _ _ _ _ c.in_ok-check.ensures).room, c.match-fitted.auto.scratch)

pub returns : goal.returns
returns c =
    elim c.match-fitted.branch [
      | in-Ok w ↦ written _ _ _ _ _ c.in_ok-check.ensures _ _ _ _ _ _ _ _ c.terms_for.ensures w.scratch-is c.match-fitted.auto.scratch c.clear.ensures _ w.fitted-is w.in-Ok.ensures (c.fit_live-fitted.auto.live ∙ c.split_at_mut-live.ensures.front_len) _ w.kept-is w.write_marks.ensures
      | in_default w ↦ stayed _ _ _ _ _ c.in_ok-check.ensures _ _ _ _ _ _ _ _ c.terms_for.ensures w.scratch-is c.match-fitted.auto.scratch c.clear.ensures _ _ w.fitted-is w.in_default.is w.in_default.ensures w.kept-is
    ]
