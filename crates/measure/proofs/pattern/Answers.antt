-- `measure::pattern` meets its contract: a pattern has 32 bits. Assumes nothing.
use mathlib.Core.Path.{◌≡◌, sym, subst}
use mathlib.Core.Bool.{true}
use native.Mathlib.Omega.{arith}
use lib.Dec.{T}
use lib.Ieee.{Float, binary32, fits}
use lib.Ieee.Bits.{to_bits-lt}
use Rattle.measure.proofs.pattern.Goals as goal

-- the format holds what the function is handed
fit : (x : Float) → fits binary32 x ≡ true → T (fits binary32 x)
fit x e = subst T (sym e) tt

pub returns-else-is_nan : goal.returns-else-is_nan
returns-else-is_nan c = omega (arith, c.from.ensures, to_bits-lt binary32 c.args.x (fit c.args.x c.well_formed.0.1))
