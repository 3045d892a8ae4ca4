-- `float::narrow` meets its contract: a NaN gives a NaN, and any other value's pattern is narrowed by `magnitude`. Assumes nothing.
use Rattle.std.proofs.Common.{◌≡◌, true, T, sym, subst, arith}
use lib.Ieee.{Float, binary64, fits}
use lib.Ieee.Bits.{to_bits-lt}
use Rattle.float.proofs.NoNan.{is_number, is_none}
use Rattle.floatlaws.specs.Bits.{real-below}
use Rattle.float.proofs.Single.{nan_is, single_is, single_no_nan}
use Rattle.float.proofs.narrow.Goals as goal

-- what owning an `f64` tells: the format holds it
held : (x : Float) → fits binary64 x ≡ true → T (fits binary64 x)
held x e = subst T (sym e) tt

pub returns-then-is_nan : goal.returns-then-is_nan
returns-then-is_nan c = nan_is c.args.x (is_none c.args.x c.is_nan.result c.is_nan.ensures.value c.if-is_nan.true)

pub overflow_mul-sign : goal.overflow_mul-sign
overflow_mul-sign c = omega (arith, to_bits-lt binary64 c.args.x (held c.args.x c.well_formed.0.1))

pub overflow_cast-sign : goal.overflow_cast-sign
overflow_cast-sign c = omega (arith, to_bits-lt binary64 c.args.x (held c.args.x c.well_formed.0.1))

pub magnitude-requires : goal.magnitude-requires
magnitude-requires c = real-below binary64 c.args.x (held c.args.x c.well_formed.0.1) (is_number c.args.x c.is_nan.result c.is_nan.ensures.value c.if-is_nan.false)

pub overflow_add-result : goal.overflow_add-result
overflow_add-result c = omega (arith, to_bits-lt binary64 c.args.x (held c.args.x c.well_formed.0.1), c.magnitude.ensures.small)

pub float_from_bits-result : goal.float_from_bits-result
float_from_bits-result c = single_no_nan c.args.x (held c.args.x c.well_formed.0.1) c.magnitude.result c.magnitude.ensures

pub returns : goal.returns
returns c = single_is c.args.x (held c.args.x c.well_formed.0.1) c.magnitude.result c.magnitude.ensures
