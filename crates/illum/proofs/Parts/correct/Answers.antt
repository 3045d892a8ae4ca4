-- `illum::Parts::correct` meets its contract: sentence 8, the terms and the side are tested first. A corrected colour that shows its model's numbers to be finite leaves nothing of
-- sentence 10 to test (`shown`), and with any other they are looked at. Assumes nothing.
use Rattle.std.proofs.Common.{◌≡◌, Bool, true, false, [], ◌∷◌, sym, refl, ap, ◌∙◌, arith}
use lib.Ieee.{Float}
use Rattle.sentences.specs.Sentences.{◌when◌}
use Rattle.sentences.proofs.Laws.{holds, passed, none}
use Rattle.answers.specs.Answers.{refused_by, gives}
use Rattle.answers.proofs.Answers.{says-refused, says-given}
use Rattle.color.specs.declared.Linear.{Linear}
use Rattle.color.specs.Palette.{wild_linear}
use Rattle.illum.specs.declared.IlluminationModel.{IlluminationModel}
use Rattle.illum.specs.declared.Unshaded.{Unshaded}
use Rattle.illum.specs.declared.Marked.{Marked}
use Rattle.illum.specs.Correct.{unshaded, mixed, corrected, of_parts}
use Rattle.illum.specs.Refusals.{bad_shape, not_finite_model, bad_model, sentences_of, correct_of}
use Rattle.illum.specs.Shown.{leaves_open}
use Rattle.illum.proofs.Shown.{shown}
use Rattle.illum.proofs.Parts.correct.Goals as goal
use Rattle.illum.proofs.Parts.correct.Goals.{else-leaves_open-via-then-leaves_open+else-not_finite, else-leaves_open-via-else-leaves_open}

module _ (m : IlluminationModel) (x y : Float) (c : Linear) where
  -- the answer, by what sentences 8 and 10 say
  by_8 : wild_linear c ≡ true → refused_by 8 ≡ correct_of m x y c
  unfolding correct_of sentences_of
  by_8 w =
      says-refused (sentences_of m c) (corrected m x y c) 8 (holds 8 true (wild_linear c) ((10 when bad_model m) ∷ []) (sym w) refl)
      (λ z. absurd (omega arith))

  by_10 : wild_linear c ≡ false → bad_model m ≡ true → refused_by 10 ≡ correct_of m x y c
  unfolding correct_of sentences_of
  by_10 w b =
      says-refused (sentences_of m c) (corrected m x y c) 10
      (passed 8 false (wild_linear c) ((10 when bad_model m) ∷ []) 10 (sym w) refl (holds 10 true (bad_model m) [] (sym b) refl))
      (λ z. absurd (omega arith))

  by_0 : wild_linear c ≡ false → bad_model m ≡ false → (out : Marked) → out ≡ corrected m x y c → gives out ≡ correct_of m x y c
  unfolding correct_of sentences_of
  by_0 w b out h =
      says-given (sentences_of m c) (corrected m x y c) out
      (passed 8 false (wild_linear c) ((10 when bad_model m) ∷ []) 0 (sym w) refl (passed 10 false (bad_model m) [] 0 (sym b) refl none)) h

  -- the tests of the code, in their order: the colour, the shape, then either what the corrected colour shows or the numbers
  module _ (w s : Bool) (ew : w ≡ wild_linear c) (es : s ≡ bad_shape m) where
    shape-bad : w ≡ false → s ≡ true → refused_by 10 ≡ correct_of m x y c
    unfolding bad_model
    shape-bad l t = by_10 (sym ew ∙ l) (rw (← es, t) refl)

    module _ (l : w ≡ false) (k : s ≡ false) where
      numbers : bad_model m ≡ not_finite_model m
      unfolding bad_model
      numbers = rw (← es, k) refl

      number-bad : (n : Bool) → n ≡ not_finite_model m → n ≡ true → refused_by 10 ≡ correct_of m x y c
      number-bad n e t = by_10 (sym ew ∙ l) (numbers ∙ (sym e ∙ t))

      module _ (d : Unshaded) (out : Marked) (u : d ≡ unshaded m x y c) (v : out ≡ mixed m d) where
        same : out ≡ corrected m x y c
        same = v ∙ ap (mixed m) u

        good : not_finite_model m ≡ false → gives out ≡ correct_of m x y c
        good e = by_0 (sym ew ∙ l) (numbers ∙ e) out same

        looked_at : (n : Bool) → n ≡ not_finite_model m → n ≡ false → gives out ≡ correct_of m x y c
        looked_at n e t = good (sym e ∙ t)

        seen : (o : Bool) → o ≡ leaves_open m.residual_rms d out.colour → o ≡ false → gives out ≡ correct_of m x y c
        seen o e t =
            good
            (shown m x y c
            (sym (ap (λ (z : Marked). leaves_open m.residual_rms (unshaded m x y c) z.colour) same)
            ∙ (sym (ap (λ (z : Unshaded). leaves_open m.residual_rms z out.colour) u) ∙ (sym e ∙ t))))

pub returns-then-wild_linear : goal.returns-then-wild_linear
returns-then-wild_linear c = by_8 _ _ _ _ (sym c.wild_linear.ensures ∙ c.if-wild_linear.true)

pub returns-then-bad_shape : goal.returns-then-bad_shape
returns-then-bad_shape c =
    shape-bad _ _ _ _ _ _ c.wild_linear.ensures c.bad_shape.ensures c.if-wild_linear.false c.if-bad_shape.true

pub returns-then-not_finite : goal.returns-then-not_finite
returns-then-not_finite c =
    number-bad _ _ _ _ _ _ c.wild_linear.ensures c.bad_shape.ensures c.if-wild_linear.false c.if-bad_shape.false _
    c.not_finite.ensures c.if-not_finite.true

pub returns : goal.returns
unfolding of_parts
returns c =
    elim c.else-leaves_open.branch [
      | else-leaves_open-via-then-leaves_open+else-not_finite w ↦
          looked_at _ _ _ _ _ _ c.wild_linear.ensures c.bad_shape.ensures c.if-wild_linear.false c.if-bad_shape.false _ _
          c.unshade-d.ensures c.mix-out.ensures _ w.not_finite.ensures w.if-not_finite.false
      | else-leaves_open-via-else-leaves_open w ↦
          seen _ _ _ _ _ _ c.wild_linear.ensures c.bad_shape.ensures c.if-wild_linear.false c.if-bad_shape.false _ _
          c.unshade-d.ensures c.mix-out.ensures _ c.leaves_open.ensures w.if-leaves_open.false
    ]
