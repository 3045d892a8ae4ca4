-- The model of `identity` is the unit model of 4 terms, which returns a colour (crates/illum/proofs/UnitModel.antt) and passes sentence 10. Assumes nothing.
use mathlib.Core.Path.{◌≡◌}
use mathlib.Core.Bool.{false}
use Prim.Native.Nat.{ℕ, ◌≤◌}
use borrow.Author.Tests.{le-ltb}
use lib.Ieee.{Float, binary32}
use Rattle.floatlaws.specs.Finite.{Fin}
use Rattle.sentences.specs.Sentences.{refusal, decided}
use Rattle.limits.specs.Limits.{bad_side}
use Rattle.answers.specs.Answers.{gives}
use Rattle.color.specs.declared.Linear.{Linear}
use Rattle.color.specs.Palette.{wild_linear}
use Rattle.illum.specs.Correct.{corrected, unit_model}
use Rattle.illum.specs.Refusals.{identity_of, sentences_of, correct_of}
use Rattle.illum.specs.Returned.{ReturnedColour}
use Rattle.illum.proofs.Passes.{unit-four-passes}
use Rattle.illum.proofs.UnitModel.{unit-returns}

module _ (side : ℕ) (least : 1 ≤ side) (most : side ≤ 1024) where
  model_is : (identity_of side).model ≡ unit_model side 4
  unfolding identity_of refusal decided bad_side
  model_is = rw (le-ltb side 1 least, le-ltb 1024 side most)

  module _ (x y : Float) (c : Linear) where
    pub returned : Fin binary32 x → Fin binary32 y → Fin binary32 c.r → Fin binary32 c.g → Fin binary32 c.b → ReturnedColour c (corrected (identity_of side).model x y c).colour
    returned p q r g b = rw model_is (unit-returns side 4 least x y c p q r g b)

    pub answered : wild_linear c ≡ false → correct_of (identity_of side).model x y c ≡ gives (corrected (identity_of side).model x y c)
    unfolding correct_of sentences_of refusal decided
    answered h = rw (model_is, h, unit-four-passes side least most)
