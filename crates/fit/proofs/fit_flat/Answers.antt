-- `fit::fit_flat` meets its contract: a slice of whole references is counted; else 2 or 5, which stands before every other sentence.
-- Assumes nothing.
use mathlib.Core.Path.{◌≡◌, sym, ap, ◌∙◌}
use mathlib.Core.Bool.{Bool, true, false, not}
use mathlib.Core.List.{List}
use Prim.Native.Nat.{ℕ, ◌/◌, ◌%◌}
use borrow.Author.Tests.{eq-eqb, ne_eqb}
use lib.ListN.{length}
use lib.Ieee.{Float}
use Rattle.std.specs.Prelude.{Result, IfOk}
use Rattle.answers.specs.declared.refusal.Refusal.{Refusal}
use Rattle.answers.specs.declared.refusal.Refusal.TheVariants.{Side, Length}
use Rattle.sentences.specs.Sentences.{refusal}
use Rattle.limits.specs.Limits.{bad_side}
use Rattle.illum.specs.declared.IlluminationModel.{IlluminationModel}
use Rattle.illum.specs.Refusals.{refused_model, model_said}
use Rattle.fit.specs.Fit.{MarksAddUp, fit_sentences, Final, final, request, flat_request, fit_of}
use Rattle.fit.proofs.Accepted.{turned-away}
use Rattle.fit.proofs.Marks.{marks-add_up}
use Rattle.fit.proofs.fit_flat.Goals as goal

module _ (flat : List Float) (side version : ℕ) (kept : List ℕ) (scratch : List Float) where
  counted : (f : Final) → length flat % 8 ≡ 0 → f ≡ fit_of (request flat false (length flat / 8) side version kept scratch) → f ≡ fit_of (flat_request flat side version kept scratch)
  counted f h e = e ∙ ap (λ (b : Bool). fit_of (request flat (not b) (length flat / 8) side version kept scratch)) (sym (eq-eqb (length flat % 8) 0 h))

  counted_adds_up : (r : Result IlluminationModel Refusal) (k : List ℕ) (s : List Float) → final (model_said r) k s ≡ fit_of (flat_request flat side version kept scratch)
      → IfOk r (λ m. MarksAddUp (length flat / 8) m k)
  counted_adds_up r k s e = marks-add_up (flat_request flat side version kept scratch) r k s e

  module _ (r : Bool) (e : r ≡ bad_side side) where
    two : r ≡ true → final (refused_model 2) kept scratch ≡ fit_of (flat_request flat side version kept scratch)
    unfolding fit_sentences refusal
    two t = turned-away (flat_request flat side version kept scratch) Side (cc)

    five : (length flat % 8 ≡ 0 → ⊥) → r ≡ false → final (refused_model 5) kept scratch ≡ fit_of (flat_request flat side version kept scratch)
    unfolding fit_sentences refusal
    five h t = turned-away (flat_request flat side version kept scratch) Length (cc (ne_eqb (length flat % 8) 0 h))

pub returns-then-flat-eq0 : goal.returns-then-flat-eq0
returns-then-flat-eq0 c =
    let e = counted _ _ _ _ _ _ c.if-flat-eq0.true c.fit_counted.ensures in
    record { scratch_after = e; marks_add_up = counted_adds_up _ _ _ _ _ _ _ _ e }

pub returns-then-bad_side-clause-scratch_after : goal.returns-then-bad_side-clause-scratch_after
returns-then-bad_side-clause-scratch_after c = two _ _ _ _ _ _ c.bad_side.ensures c.if-bad_side.true

pub returns-clause-scratch_after : goal.returns-clause-scratch_after
returns-clause-scratch_after c = five _ _ _ _ _ _ c.bad_side.ensures c.if-flat-eq0.false c.if-bad_side.false
