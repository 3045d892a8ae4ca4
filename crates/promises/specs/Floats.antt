-- Floats (crate `float`): the roots are the nearest floats, and the only ones. Definitions only.
use Rattle.std.specs.Prelude.{◌≡◌, T, Float}
use Rattle.std.specs.Float.{binary32}
use Rattle.std.specs.Float.Ieee.{fits}
use Rattle.float.specs.Root.{sqrt_of, cbrt_of}
use Rattle.float.specs.Nearest.{IsSqrt, IsCbrt}

-- at every f32 x: of a zero, an infinity and a NaN the roots are IEEE 754's, and that of a finite number is strictly nearer to the root than any other finite f32
pub record NearestRoots : Type 0 where
  pub sqrt : (x : Float) → T (fits binary32 x) → IsSqrt x (sqrt_of x)
  pub cbrt : (x : Float) → T (fits binary32 x) → IsCbrt x (cbrt_of x)
  -- no other float is that
  pub sqrt-only : (x r : Float) → T (fits binary32 x) → IsSqrt x r → r ≡ sqrt_of x
  pub cbrt-only : (x r : Float) → T (fits binary32 x) → IsCbrt x r → r ≡ cbrt_of x
