-- What a fit comes to: the model that it gives always passes sentence 10, and its counts are 0 kept, or kept and rejected of all, the kept ones being those that are live; rejected are never more than all. Assumes nothing.
use mathlib.Core.Path.{◌≡◌, refl, sym, ap, ◌∙◌}
use mathlib.Core.Logic.{◌⊎◌, inl, inr}
use mathlib.Core.Bool.{Bool, true, false, cond}
use mathlib.Core.List.{List}
use Prim.Native.Nat.{ℕ, zero, suc, ◌+◌, ◌≤◌}
use native.Mathlib.Omega.{arith}
use lib.Dec.{ltb}
use lib.ListN.{length}
use lib.Ieee.{Float}
use Rattle.sentences.specs.Sentences.{refusal, decided}
use Rattle.sentences.proofs.Laws.{accepts}
use Rattle.illum.specs.declared.IlluminationModel.{IlluminationModel}
use Rattle.std.specs.Prelude.{Option, None, Some, Result, Ok, Err}
use Rattle.answers.specs.declared.refusal.Refusal.{Refusal}
use Rattle.answers.specs.Answers.{number_of}
use Rattle.answers.proofs.Answers.{numbered}
use Rattle.illum.specs.Correct.{unit_model}
use Rattle.illum.specs.Refusals.{bad_model, modelled, refused_model}
use Rattle.illum.proofs.Passes.{unit-four-passes, unit-nine-passes}
use Rattle.equations.specs.Live.{live_marks, live_count}
use Rattle.residuals.specs.Residual.{residuals_of, limit_of, reject_above}
use Rattle.fit.specs.Fit.{with_counts, pass_of, Ran, ran, concluded, dropped_of, refitted, first_pass, fitted, terms_for, marks_of, marks_left, Request, sentences_of, turned_away, ran_of, done, fit_of}
use Rattle.fit.proofs.Accepted.{Accepted, accepted}
use Rattle.fit.proofs.Counts.{each-counted}
use Rattle.fit.proofs.Shape.{Fitting, pass-fitting, counts-apart, counts-pass, alike-passes}

-- n references: what holds of an accepted answer, number 0, and of the references that are live at its end
pub record Sound (n : ℕ) (x : Ran) : Type 0 where
  pub passes : x.answer.number ≡ 0 → bad_model x.answer.model ≡ false
  pub all : x.answer.number ≡ 0 → (x.answer.model.kept ≡ 0) ⊎ (x.answer.model.kept + x.answer.model.rejected ≡ n)
  pub few : x.answer.number ≡ 0 → x.answer.model.rejected ≤ n
  pub lives : x.answer.number ≡ 0 → (x.answer.model.kept ≡ 0) ⊎ (x.answer.model.kept ≡ live_count x.live n)

refused-sound : (n k : ℕ) (live : List Float) → (k ≡ 0 → ⊥) → Sound n (ran (refused_model k) live)
refused-sound n k live z = record { passes = λ e. absurd (z e); all = λ e. absurd (z e); few = λ e. absurd (z e); lives = λ e. absurd (z e) }

none-sound : (n : ℕ) (m : IlluminationModel) (live : List Float) → bad_model m ≡ false → m.kept ≡ 0 → m.rejected ≤ n → Sound n (ran (modelled 0 m) live)
none-sound n m live h k r = record { passes = λ e. h; all = λ e. inl k; few = λ e. r; lives = λ e. inl k }

-- pass two, from a model that passes and has 0 kept, over the live ones of n references
module _ (first : IlluminationModel) (flat live : List Float) (n : ℕ) (h : bad_model first ≡ false) (k : first.kept ≡ 0) (c : live_count live n + first.rejected ≡ n) where
  concludes : (p : Result (Option IlluminationModel) Refusal) → Fitting first p → Sound n (ran (concluded first live n p) live)
  concludes (Ok None) f = none-sound n first live h k (omega arith)
  concludes (Err r) f = refused-sound n (number_of r) live (numbered r)
  concludes (Ok (Some m)) f =
      let a = f.0 in
      record {
        passes = λ e. alike-passes first (with_counts m m.rejected (live_count live n)) a.terms a.side h (counts-apart m m.rejected (live_count live n) ∙ f.1);
        all = λ e. inr (ap (λ (j : ℕ). live_count live n + j) a.rejected ∙ c);
        few = λ e. omega (arith, a.rejected);
        lives = λ e. inr refl;
      }

  concluded-sound : Sound n (ran (concluded first live n (pass_of first flat live n)) live)
  concluded-sound = concludes (pass_of first flat live n) (pass-fitting first flat live n)

-- what comes after a pass one whose model passes and has 0 kept
refitted-sound : (m : IlluminationModel) (flat residuals : List Float) (n : ℕ) → bad_model m ≡ false → m.kept ≡ 0 → Sound n (refitted m flat residuals (live_marks n) n)
unfolding refitted dropped_of
refitted-sound m flat residuals n h k =
    let r = reject_above residuals (limit_of residuals) n (live_marks n) in
    concluded-sound (with_counts m r.rejected m.kept) flat r.live n (counts-pass m r.rejected m.kept h) k (each-counted residuals (limit_of residuals) n)

-- pass one
module _ (start : IlluminationModel) (flat : List Float) (n : ℕ) (h : bad_model start ≡ false) (k : start.kept ≡ 0) (z : start.rejected ≡ 0) where
  begins : (p : Result (Option IlluminationModel) Refusal) → Fitting start p → Sound n (first_pass start flat n p)
  begins (Ok None) f = none-sound n start (live_marks n) h k (omega arith)
  begins (Err r) f = refused-sound n (number_of r) (live_marks n) (numbered r)
  begins (Ok (Some m)) f =
      let a = f.0 in
      refitted-sound m flat (residuals_of m flat n) n (alike-passes start m a.terms a.side h f.1) (a.kept ∙ k)

  few_or_more : (b : Bool) → Sound n (cond b (ran (modelled 0 start) (live_marks n)) (first_pass start flat n (pass_of start flat (live_marks n) n)))
  few_or_more true = none-sound n start (live_marks n) h k (omega arith)
  few_or_more false = begins (pass_of start flat (live_marks n) n) (pass-fitting start flat (live_marks n) n)

start-passes : (side version : ℕ) → 1 ≤ side → side ≤ 1024 → bad_model (unit_model side (terms_for version)) ≡ false
unfolding terms_for
start-passes side version l h = either (ltb version 10)
  where
    either : (b : Bool) → bad_model (unit_model side (cond b 4 9)) ≡ false
    either true = unit-four-passes side l h
    either false = unit-nine-passes side l h

none_kept : (side terms : ℕ) → (unit_model side terms).kept ≡ 0
unfolding unit_model
none_kept side terms = refl

none-rejected : (side terms : ℕ) → (unit_model side terms).rejected ≡ 0
unfolding unit_model
none-rejected side terms = refl

fitted-sound : (flat : List Float) (n side version : ℕ) → 1 ≤ side → side ≤ 1024 → Sound n (fitted flat n side (terms_for version))
unfolding fitted
fitted-sound flat n side version l h =
    few_or_more (unit_model side (terms_for version)) flat n (start-passes side version l h) (none_kept side (terms_for version)) (none-rejected side (terms_for version)) (ltb n 8)

by_number : (q : Request) (k : ℕ) → k ≡ refusal (sentences_of q) → Sound q.n (ran (decided k (turned_away q) (done q)).answer (ran_of q).live)
unfolding decided
by_number q zero e =
    let a = accepted q.flat q.cut q.n q.side (length q.kept) (length q.scratch) e in
    fitted-sound q.flat q.n q.side q.version a.side-least a.side-most
by_number q (suc k) e = refused-sound q.n (suc k) (ran_of q).live (λ z. omega arith)

-- whatever a fit is handed: where it is accepted, its model passes sentence 10, kept is 0, or kept + rejected is all and the kept ones are live, and rejected is at most all
pub fit-sound : (q : Request) → Sound q.n (ran (fit_of q).answer (ran_of q).live)
unfolding fit_of
fit-sound q = by_number q (refusal (sentences_of q)) refl

-- an accepted fit: none of the sentences 2 to 8 holds
zero_number : (q : Request) (k : ℕ) → (decided k (turned_away q) (done q)).answer.number ≡ 0 → k ≡ 0
unfolding decided
zero_number q zero e = refl
zero_number q (suc k) e = e

pub fit-accepted : (q : Request) → (fit_of q).answer.number ≡ 0 → Accepted q.flat q.n q.side (length q.kept) (length q.scratch)
unfolding fit_of
fit-accepted q e = accepted q.flat q.cut q.n q.side (length q.kept) (length q.scratch) (sym (zero_number q (refusal (sentences_of q)) e))

-- its marks are those of the passes
kept-left : (q : Request) (k : ℕ) → k ≡ 0 → (decided k (turned_away q) (done q)).answer.number ≡ 0
    → (decided k (turned_away q) (done q)).kept ≡ marks_of (decided k (turned_away q) (done q)).answer.model.kept (ran_of q).live q.n q.kept
unfolding decided marks_left
kept-left q zero z e = sym (accepts (λ (j : ℕ). q.kept) (marks_of (ran_of q).answer.model.kept (ran_of q).live q.n q.kept) 0 (ran_of q).answer.number refl (sym e))
kept-left q (suc k) z e = absurd (omega arith)

pub fit-kept : (q : Request) → (fit_of q).answer.number ≡ 0 → (fit_of q).kept ≡ marks_of (fit_of q).answer.model.kept (ran_of q).live q.n q.kept
unfolding fit_of
fit-kept q e = kept-left q (refusal (sentences_of q)) (zero_number q (refusal (sentences_of q)) e) e
