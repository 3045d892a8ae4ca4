-- The library's |x| is that of the definitions. Assumes nothing.
use Rattle.std.proofs.Common.{◌≡◌, false, refl}
use Rattle.std.specs.Float.{float_with_sign}
use lib.Ieee.{Float, nan, inf, fin}
use Rattle.float.specs.Select.{abs}

pub cleared : (x : Float) → float_with_sign false x ≡ abs x
unfolding float_with_sign abs
cleared nan = refl
cleared (inf s) = refl
cleared (fin s m e) = refl
