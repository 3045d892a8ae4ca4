-- What a corrected colour says about its model without a look at the model's numbers. Definitions only.
use Rattle.std.specs.Prelude.{Bool, ◌||◌, Float}
use Rattle.std.specs.Float.Ieee.{eq}
use Rattle.color.specs.declared.Linear.{Linear}
use Rattle.color.specs.Palette.{wild_linear}
use Rattle.illum.specs.declared.Unshaded.{Unshaded}
use Rattle.illum.specs.Surface.{zero64}
use Rattle.illum.specs.Refusals.{not_finite}

-- whether a corrected colour leaves it open that a number of its model is not finite: where the colour is not wild, no channel's inverse is 0 and the
-- residual is finite, all numbers are (proofs/Shown.antt)
unfoldable pub leaves_open : Float → Unshaded → Linear → Bool
leaves_open rms d c = wild_linear c || ((eq d.r.value zero64 || eq d.g.value zero64 || eq d.b.value zero64) || not_finite rms)
