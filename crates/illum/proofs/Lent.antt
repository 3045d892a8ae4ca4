-- A model is corrected by as its parts are: no answer looks at the counts of references. Assumes nothing.
use Rattle.std.proofs.Common.{◌≡◌, Bool, ap, ◌∙◌}
use lib.Ieee.{Float}
use Rattle.answers.specs.Answers.{Said}
use Rattle.color.specs.declared.Linear.{Linear}
use Rattle.illum.specs.declared.IlluminationModel.{IlluminationModel}
use Rattle.illum.specs.declared.Unshaded.{Unshaded}
use Rattle.illum.specs.declared.Unrounded.{Unrounded}
use Rattle.illum.specs.declared.Marked.{Marked}
use Rattle.illum.specs.Correct.{unshaded, rows, mixed, uncounted}
use Rattle.illum.specs.Refusals.{not_finite_affine, not_finite_gains, not_finite_flares, not_finite_model, bad_shape, bad_model, sentences_of, correct_of}

module _ (m p : IlluminationModel) (e : p ≡ uncounted m) where
  pub unshaded_alone : (x y : Float) (c : Linear) (d : Unshaded) → d ≡ unshaded p x y c → d ≡ unshaded m x y c
  unfolding unshaded uncounted
  unshaded_alone x y c d h = h ∙ ap (λ (q : IlluminationModel). unshaded q x y c) e

  pub rows_alone : (d : Unshaded) (v : Unrounded) → v ≡ rows p d → v ≡ rows m d
  unfolding rows uncounted
  rows_alone d v h = h ∙ ap (λ (q : IlluminationModel). rows q d) e

  pub mixed_alone : (d : Unshaded) (v : Marked) → v ≡ mixed p d → v ≡ mixed m d
  unfolding mixed uncounted
  mixed_alone d v h = h ∙ ap (λ (q : IlluminationModel). mixed q d) e

  pub shape_alone : (b : Bool) → b ≡ bad_shape p → b ≡ bad_shape m
  unfolding bad_shape uncounted
  shape_alone b h = h ∙ ap bad_shape e

  pub numbers_alone : (b : Bool) → b ≡ not_finite_model p → b ≡ not_finite_model m
  unfolding not_finite_model not_finite_affine not_finite_gains not_finite_flares uncounted
  numbers_alone b h = h ∙ ap not_finite_model e

  pub correct_alone : (x y : Float) (c : Linear) (s : Said Marked) → s ≡ correct_of p x y c → s ≡ correct_of m x y c
  unfolding correct_of sentences_of bad_model bad_shape not_finite_model not_finite_affine not_finite_gains not_finite_flares unshaded mixed uncounted
  correct_alone x y c s h = h ∙ ap (λ (q : IlluminationModel). correct_of q x y c) e

pub ruleset alone = (shape_alone, numbers_alone)
