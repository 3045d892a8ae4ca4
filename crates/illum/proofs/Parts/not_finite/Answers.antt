-- `illum::Parts::not_finite` meets its contract: the test that is passed on is the definition's. Assumes nothing.
use Rattle.std.proofs.Common.{not, refl}
use lib.Ieee.Scale.{finite}
use Rattle.illum.specs.Correct.{of_parts}
use Rattle.illum.specs.Refusals.{not_finite_affine, not_finite_gains, not_finite_flares, not_finite_model}
use Rattle.illum.proofs.Parts.not_finite.Goals as goal

pub returns : goal.returns
unfolding not_finite_model not_finite_affine not_finite_gains not_finite_flares of_parts
returns c = rw (c.any.ensures (λ v. not (finite v)) (λ x b q. q), c.not_finite.ensures) refl
