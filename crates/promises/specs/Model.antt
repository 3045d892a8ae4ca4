-- The illumination model (crates `illum` and `fit`). Definitions only.
use Rattle.std.specs.Prelude.{◌≡◌, ◌⊎◌, true, false, ℕ, ◌+◌, ◌≤◌, Float}
use Rattle.std.specs.Float.{binary32}
use Rattle.floatlaws.specs.Finite.{Fin}
use Rattle.answers.specs.Answers.{gives}
use Rattle.color.specs.declared.Linear.{Linear}
use Rattle.color.specs.Palette.{wild_linear}
use Rattle.illum.specs.declared.IlluminationModel.{IlluminationModel}
use Rattle.illum.specs.Correct.{corrected}
use Rattle.illum.specs.Refusals.{bad_model, identity_of, correct_of}
use Rattle.illum.specs.Reach.{Typed, Placed, reach_of, is_within}
use Rattle.illum.specs.Returned.{ReturnedColour}
use Rattle.fit.specs.Fit.{Request, fit_of}

-- where the model's side is from 1 to 1,024 and its numbers from -8 to 8, the position from -side to 2 × side and each component of the colour from -256 to 256 (`is_within` of `reach_of`), the
-- corrected colour is finite and at most 1,048,576 in magnitude, as sentence 12 asks. Every number is a value of its format, f64 in the model and f32 elsewhere
abbrev pub Moderate : Type 0
Moderate = (m : IlluminationModel) (x y : Float) (c : Linear) → Typed m → Placed x y c → is_within (reach_of m) x y c ≡ true → wild_linear (corrected m x y c).colour ≡ false

-- the model of `identity`, of a side from 1 to 1,024: at a position of finite f32 values a colour of finite f32 components comes back, and `correct` answers it wherever the colour does not break sentence 8
pub record IdentityReturns : Type 0 where
  pub colour : (side : ℕ) → 1 ≤ side → side ≤ 1024 → (x y : Float) (c : Linear) → Fin binary32 x → Fin binary32 y → Fin binary32 c.r → Fin binary32 c.g → Fin binary32 c.b →
      ReturnedColour c (corrected (identity_of side).model x y c).colour
  pub answer : (side : ℕ) → 1 ≤ side → side ≤ 1024 → (x y : Float) (c : Linear) → wild_linear c ≡ false →
      correct_of (identity_of side).model x y c ≡ gives (corrected (identity_of side).model x y c)

-- an accepted fit of n references: its model passes sentence 10, and none were kept, or the kept and the rejected are all
pub record Fitted (q : Request) : Type 0 where
  pub passes : bad_model (fit_of q).answer.model ≡ false
  pub counts : ((fit_of q).answer.model.kept ≡ 0) ⊎ ((fit_of q).answer.model.kept + (fit_of q).answer.model.rejected ≡ q.n)

abbrev pub FittedModels : Type 0
FittedModels = (q : Request) → (fit_of q).answer.number ≡ 0 → Fitted q
