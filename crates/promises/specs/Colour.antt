-- Colour (crate `color`): the sRGB curve is the standard's and correctly rounded, black and white are exact both ways, and lightness never falls. Definitions only.
use Rattle.std.specs.Prelude.{◌≡◌, ℕ, ◌+◌, ◌*◌, ◌^◌, ◌≤◌, ◌<◌, T, Float}
use Rattle.std.specs.Float.{binary32}
use Rattle.std.specs.Float.Ieee.{le, to_bits}
use Rattle.floatlaws.specs.Value.{Num}
use Rattle.float.specs.Root.{cbrt_of}
use Rattle.color.specs.declared.Xyz.{Xyz}
use Rattle.color.specs.Color.{linear, xyz, lab, white_x, white_y, white_z, whole, line, line_inv, cube, delta, delta3, xyz_to_lab, lab_to_xyz, linear_to_lab, lab_to_linear}
use Rattle.color.specs.Srgb.{Root, curve, srgb_to_linear, NearestTo}

-- ---- the curve as IEC 61966-2-1 states it, in fractions of whole numbers

-- num / den, where den is above 0
pub record Fraction : Type 0 where
  pub num : ℕ
  pub den : ℕ

abbrev pub over : ℕ → ℕ → Fraction
over n d = record { num = n; den = d }

-- the sum and the quotient of two, and their order, cross-multiplied
abbrev pub plus : Fraction → Fraction → Fraction
plus a b = over (a.num * b.den + b.num * a.den) (a.den * b.den)

abbrev pub divided_by : Fraction → Fraction → Fraction
divided_by a b = over (a.num * b.den) (a.den * b.num)

abbrev pub AtMost : Fraction → Fraction → Type 0
AtMost a b = a.num * b.den ≤ b.num * a.den

abbrev pub Below : Fraction → Fraction → Type 0
Below a b = a.num * b.den < b.num * a.den

-- x is the m / n power of f: the n-th power of x, which is its own fraction, equals the m-th power of f
pub record IsPower (x : Root) (f : Fraction) (m n : ℕ) : Type 0 where
  pub root : x.power ≡ n
  pub positive : 0 < x.den
  pub equal : x.num * f.den ^ m ≡ f.num ^ m * x.den

-- the encoded value of byte v
abbrev pub encoded : ℕ → Fraction
encoded v = over v 255

-- the curve is straight up to the encoded value 0.04045
abbrev pub straight_to : Fraction
straight_to = over 4045 100000

-- encoded value / 12.92
abbrev pub scaled : ℕ → Fraction
scaled v = divided_by (encoded v) (over 1292 100)

-- (encoded value + 0.055) / 1.055
abbrev pub shifted : ℕ → Fraction
shifted v = divided_by (plus (encoded v) (over 55 1000)) (over 1055 1000)

-- the curve at byte v is `scaled v` up to 0.04045, and above it `shifted v` to the power 2.4, which is 12 / 5
pub record SrgbFormula : Type 0 where
  pub straight : (v : ℕ) → AtMost (encoded v) straight_to → IsPower (curve v) (scaled v) 1 1
  pub power : (v : ℕ) → Below straight_to (encoded v) → IsPower (curve v) (shifted v) 12 5

-- of every byte the linear value is strictly nearer to that curve than any other finite f32
pub record NearestSrgb : Type 0 where
  pub nearest : (v : ℕ) → v < 256 → NearestTo (curve v) (srgb_to_linear v)
  -- no other float is that
  pub only : (v : ℕ) → v < 256 → (r : Float) → NearestTo (curve v) r → r ≡ srgb_to_linear v

-- black and white, there and back
pub record BothWays : Type 0 where
  pub black : linear_to_lab (linear (whole 0) (whole 0) (whole 0)) ≡ lab (whole 0) (whole 0) (whole 0)
  pub black-back : lab_to_linear (lab (whole 0) (whole 0) (whole 0)) ≡ linear (whole 0) (whole 0) (whole 0)
  pub white : linear_to_lab (linear (whole 1) (whole 1) (whole 1)) ≡ lab (whole 100) (whole 0) (whole 0)
  pub white-back : lab_to_linear (lab (whole 100) (whole 0) (whole 0)) ≡ linear (whole 1) (whole 1) (whole 1)
  -- on the way back white is the white point D65
  pub white-point : lab_to_xyz (lab (whole 100) (whole 0) (whole 0)) ≡ xyz white_x white_y white_z
  pub byte_0 : srgb_to_linear 0 ≡ whole 0
  pub byte_255 : srgb_to_linear 255 ≡ whole 1
  -- at the border of f its two branches meet within one unit in the last place, and those of its inverse within two
  pub border : to_bits binary32 (cbrt_of delta3) ≡ to_bits binary32 (line delta3) + 1
  pub border-back : to_bits binary32 (line_inv delta) ≡ to_bits binary32 (cube delta) + 2

-- of two colours whose Y are numbers, the one of larger Y is no darker
abbrev pub LightnessRises : Type 0
LightnessRises = (c d : Xyz) → Num binary32 c.y → Num binary32 d.y → T (le c.y d.y) → T (le (xyz_to_lab c).l (xyz_to_lab d).l)
