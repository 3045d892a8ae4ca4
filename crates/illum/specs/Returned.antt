-- What it is that a colour comes back from a correction. Definitions only.
use Rattle.std.specs.Prelude.{◌≡◌, true, false, pos, ◌≢◌, Float}
use Rattle.std.specs.Float.{fin}
use Rattle.color.specs.declared.Linear.{Linear}

-- what comes back for v is v itself, and +0 where v is -0
pub record Returned (v back : Float) : Type 0 where
  pub same : (v ≢ fin true 0 (pos 0)) → back ≡ v
  pub zero : v ≡ fin true 0 (pos 0) → back ≡ fin false 0 (pos 0)

-- of each component of a colour
pub record ReturnedColour (c back : Linear) : Type 0 where
  pub r : Returned c.r back.r
  pub g : Returned c.g back.g
  pub b : Returned c.b back.b
