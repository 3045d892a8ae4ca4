-- Which models sentence 10 lets pass: the one that the fit starts from does, at every side that sentence 2 lets pass; what stands beside the number of a refusal does not. Assumes nothing.
use Rattle.std.proofs.Common.{◌≡◌, ℕ, ◌≤◌, true, false, refl}
use Rattle.loops.specs.Loops.{any_up, some_of}
use Rattle.illum.specs.Surface.{terms_used}
use Rattle.illum.specs.Correct.{unit_model, no_model}
use Rattle.illum.specs.Refusals.{bad_terms, not_finite_affine, not_finite_gains, not_finite_flares, not_finite_model, bad_shape, bad_model}
use Rattle.illum.proofs.Side.{side-passes}

module _ (side : ℕ) (least : 1 ≤ side) (most : side ≤ 1024) where
  pub unit-four-passes : bad_model (unit_model side 4) ≡ false
  unfolding bad_model bad_shape unit_model bad_terms not_finite_model not_finite_affine not_finite_gains not_finite_flares terms_used any_up some_of
  unit-four-passes = rw (side-passes side least most)

  pub unit-nine-passes : bad_model (unit_model side 9) ≡ false
  unfolding bad_model bad_shape unit_model bad_terms not_finite_model not_finite_affine not_finite_gains not_finite_flares terms_used any_up some_of
  unit-nine-passes = rw (side-passes side least most)

pub no_model-refused : bad_model no_model ≡ true
unfolding bad_model bad_shape no_model bad_terms
no_model-refused = refl
