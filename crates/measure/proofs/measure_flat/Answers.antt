-- `measure::measure_flat` meets its contract: a slice of whole references is counted; else 2, 3 or 5, which stand before every other sentence. Assumes nothing.
use mathlib.Core.Path.{◌≡◌, sym, ap, ◌∙◌}
use mathlib.Core.Bool.{Bool, true, false, not}
use mathlib.Core.List.{List}
use Prim.Native.Nat.{ℕ, ◌/◌, ◌%◌}
use borrow.Author.Tests.{eq-eqb, ne_eqb}
use lib.ListN.{length}
use lib.Ieee.{Float}
use Rattle.sentences.specs.Sentences.{refusal}
use Rattle.limits.specs.Limits.{bad_side, bad_hues}
use Rattle.answers.specs.declared.refusal.Refusal.TheVariants.{Side, Hues, Length}
use Rattle.answers.specs.Answers.{refused_by}
use Rattle.illum.specs.declared.IlluminationModel.{IlluminationModel}
use Rattle.measure.specs.Measure.{too_short, sentences_for, Final, final, request, flat_request, measure_of}
use Rattle.measure.proofs.Accepted.{turned-away}
use Rattle.measure.proofs.measure_flat.Goals as goal

module _ (flat scratch palette : List Float) (side hues : ℕ) (m : IlluminationModel) where
  counted : (f : Final) → length flat % 8 ≡ 0 → f ≡ measure_of (request flat false (length flat / 8) side m palette hues scratch) → f ≡ measure_of (flat_request flat side m palette hues scratch)
  counted f h e = e ∙ ap (λ (b : Bool). measure_of (request flat (not b) (length flat / 8) side m palette hues scratch)) (sym (eq-eqb (length flat % 8) 0 h))

  module _ (r : Bool) (e : r ≡ bad_side side) where
    two : r ≡ true → final (refused_by 2) scratch ≡ measure_of (flat_request flat side m palette hues scratch)
    unfolding sentences_for refusal
    two t = turned-away (flat_request flat side m palette hues scratch) Side (cc)

    module _ (t : r ≡ false) (q : Bool) (d : q ≡ bad_hues hues) where
      three : q ≡ true → final (refused_by 3) scratch ≡ measure_of (flat_request flat side m palette hues scratch)
      unfolding sentences_for refusal
      three u = turned-away (flat_request flat side m palette hues scratch) Hues (cc)

      five : q ≡ false → (length flat % 8 ≡ 0 → ⊥) → final (refused_by 5) scratch ≡ measure_of (flat_request flat side m palette hues scratch)
      unfolding sentences_for refusal too_short
      five u h = turned-away (flat_request flat side m palette hues scratch) Length (cc (ne_eqb (length flat % 8) 0 h))

pub returns-then-flat-eq0 : goal.returns-then-flat-eq0
returns-then-flat-eq0 c = counted _ _ _ _ _ _ _ c.if-flat-eq0.true c.measure_counted.ensures

pub returns-then-bad_side : goal.returns-then-bad_side
returns-then-bad_side c = two _ _ _ _ _ _ _ c.bad_side.ensures c.if-bad_side.true

pub returns-then-bad_hues : goal.returns-then-bad_hues
returns-then-bad_hues c = three _ _ _ _ _ _ _ c.bad_side.ensures c.if-bad_side.false _ c.bad_hues.ensures c.if-bad_hues.true

pub returns : goal.returns
returns c = five _ _ _ _ _ _ _ c.bad_side.ensures c.if-bad_side.false _ c.bad_hues.ensures c.if-bad_hues.false c.if-flat-eq0.false
