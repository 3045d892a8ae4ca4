-- Sign, larger, smaller and limited, for floats of any format: document 01's rules, which are the Rust's operators spelled out. Definitions only.
use Rattle.std.specs.Prelude.{false, cond, ◌||◌, is_nan, Float}
use Rattle.std.specs.Float.{nan, inf, fin}
use Rattle.std.specs.Float.Ieee.{lt}

-- |x|: the sign cleared. Either zero gives +0, and a NaN stays one.
unfoldable pub abs : Float → Float
abs nan = nan
abs (inf s) = inf false
abs (fin s m e) = fin false m e

-- "`max(a, b)` is b where a < b or a is NaN, else a": of zeros of both signs the first, and a NaN only where both are
unfoldable pub max : Float → Float → Float
max a b = cond (lt a b || is_nan a) b a

-- "`min` mirrors it"
unfoldable pub min : Float → Float → Float
min a b = cond (lt b a || is_nan a) b a

-- x held to the range from a to b; a NaN is left
unfoldable pub clamp : Float → Float → Float → Float
clamp a b x = cond (lt x a) a (cond (lt b x) b x)
