-- Colour spaces: linear sRGB to CIE XYZ (D65) and CIELAB, and back, by the formulas of the CIE and the constants and the order of the Rust's
-- color.rs. Definitions only.
-- Each constant is a decimal or a fraction rounded once to f32, and each operation rounds once.
use Rattle.std.specs.Prelude.{ℕ, ◌+◌, ◌*◌, ◌/◌, ◌%◌, ◌^◌, Bool, false, cond, pos, Float}
use Rattle.std.specs.Float.{binary32}
use Rattle.std.specs.Float.Ieee.{add, sub, mul, div, neg, lt, le, round, of_int}
use Rattle.float.specs.Select.{clamp}
use Rattle.float.specs.Root.{sqrt_of, cbrt_of}
use Rattle.color.specs.declared.Srgb8.{Srgb8}
use Rattle.color.specs.declared.Linear.{Linear}
use Rattle.color.specs.declared.Xyz.{Xyz}
use Rattle.color.specs.declared.Lab.{Lab}
use Rattle.color.specs.Srgb.{srgb_to_linear}

abbrev pub srgb8 : ℕ → ℕ → ℕ → Srgb8
srgb8 r g b = record { r = r; g = g; b = b }

abbrev pub linear : Float → Float → Float → Linear
linear r g b = record { r = r; g = g; b = b }

abbrev pub xyz : Float → Float → Float → Xyz
xyz x y z = record { x = x; y = y; z = z }

abbrev pub lab : Float → Float → Float → Lab
lab l a b = record { l = l; a = a; b = b }

-- the f32 nearest to n / d
unfoldable pub fraction : ℕ → ℕ → Float
fraction n d = round binary32 false n d

-- n with 4 decimals, and with 7
abbrev pub dec4 : ℕ → Float
dec4 n = fraction n (10 ^ 4)

abbrev pub dec7 : ℕ → Float
dec7 n = fraction n (10 ^ 7)

abbrev pub whole : ℕ → Float
whole n = fraction n 1

-- ---- bytes

-- 0xRRGGBB, and back
unfoldable pub from_hex : ℕ → Srgb8
from_hex n = srgb8 (n / 65536 % 256) (n / 256 % 256) (n % 256)

unfoldable pub to_hex : Srgb8 → ℕ
to_hex c = c.r * 65536 + c.g * 256 + c.b

unfoldable pub srgb8_to_linear : Srgb8 → Linear
srgb8_to_linear c = linear (srgb_to_linear c.r) (srgb_to_linear c.g) (srgb_to_linear c.b)

-- ---- luma, by the weights of Rec. 709

-- p r + q g + s b, from the left
abbrev pub weighted : Float → Float → Float → Float → Float → Float → Float
weighted p q s r g b = add binary32 (add binary32 (mul binary32 p r) (mul binary32 q g)) (mul binary32 s b)

abbrev pub rec709 : Float → Float → Float → Float
rec709 r g b = weighted (dec4 2126) (dec4 7152) (dec4 722) r g b

-- of the encoded bytes
unfoldable pub rec709_luma : Srgb8 → Float
rec709_luma c = rec709 (of_int binary32 (pos c.r)) (of_int binary32 (pos c.g)) (of_int binary32 (pos c.b))

-- relative luminance
unfoldable pub luminance : Linear → Float
luminance c = rec709 c.r c.g c.b

-- ---- the gamut

unfoldable pub clamped : Linear → Linear
clamped c = let hold = clamp (whole 0) (whole 1) in linear (hold c.r) (hold c.g) (hold c.b)

-- from -1e-4 to 1 + 1e-4
unfoldable pub in_range : Float → Bool
in_range v = cond (le (neg (dec4 1)) v) (le v (add binary32 (whole 1) (dec4 1))) false

unfoldable pub in_gamut : Linear → Bool
in_gamut c = cond (in_range c.r) (cond (in_range c.g) (in_range c.b) false) false

-- ---- XYZ: the sRGB primaries under D65, and the inverse matrix

unfoldable pub linear_to_xyz : Linear → Xyz
linear_to_xyz c =
    xyz
    (weighted (dec7 4124564) (dec7 3575761) (dec7 1804375) c.r c.g c.b)
    (weighted (dec7 2126729) (dec7 7151522) (dec7 721750) c.r c.g c.b)
    (weighted (dec7 193339) (dec7 1191920) (dec7 9503041) c.r c.g c.b)

unfoldable pub xyz_to_linear : Xyz → Linear
xyz_to_linear c =
    linear
    (sub binary32 (sub binary32 (mul binary32 (dec7 32404542) c.x) (mul binary32 (dec7 15371385) c.y)) (mul binary32 (dec7 4985314) c.z))
    (weighted (neg (dec7 9692660)) (dec7 18760108) (dec7 415560) c.x c.y c.z)
    (add binary32 (sub binary32 (mul binary32 (dec7 556434) c.x) (mul binary32 (dec7 2040259) c.y)) (mul binary32 (dec7 10572252) c.z))

-- ---- CIELAB

-- the white point D65; its Y is 1
abbrev pub white_x : Float
white_x = fraction 95047 (10 ^ 5)

abbrev pub white_y : Float
white_y = whole 1

abbrev pub white_z : Float
white_z = fraction 108883 (10 ^ 5)

-- the border of f, (6/29) ^ 3, and of its inverse, 6/29
abbrev pub delta3 : Float
delta3 = fraction 216 24389

abbrev pub delta : Float
delta = fraction 6 29

-- The straight line of f, 841/108 t + 4/29, and the cube root above the border.
unfoldable pub line : Float → Float
line t = add binary32 (mul binary32 t (fraction 841 108)) (fraction 4 29)

unfoldable pub lab_f : Float → Float
lab_f t = cond (lt delta3 t) (cbrt_of t) (line t)

-- The straight line of the inverse, 3 δ² (t - 4/29), and the cube above the border.
unfoldable pub line_inv : Float → Float
line_inv t = mul binary32 (mul binary32 (mul binary32 (whole 3) delta) delta) (sub binary32 t (fraction 4 29))

unfoldable pub cube : Float → Float
cube t = mul binary32 (mul binary32 t t) t

unfoldable pub lab_finv : Float → Float
lab_finv t = cond (lt delta t) (cube t) (line_inv t)

-- L = 116 f(Y) - 16, a = 500 (f(X) - f(Y)), b = 200 (f(Y) - f(Z))
unfoldable pub lightness : Float → Float
lightness fy = sub binary32 (mul binary32 (whole 116) fy) (whole 16)

unfoldable pub xyz_to_lab : Xyz → Lab
xyz_to_lab c =
    let fx = lab_f (div binary32 c.x white_x) in
    let fy = lab_f (div binary32 c.y white_y) in
    let fz = lab_f (div binary32 c.z white_z) in
    lab (lightness fy) (mul binary32 (whole 500) (sub binary32 fx fy)) (mul binary32 (whole 200) (sub binary32 fy fz))

unfoldable pub lab_to_xyz : Lab → Xyz
lab_to_xyz c =
    let fy = div binary32 (add binary32 c.l (whole 16)) (whole 116) in
    let fx = add binary32 fy (div binary32 c.a (whole 500)) in
    let fz = sub binary32 fy (div binary32 c.b (whole 200)) in
    xyz (mul binary32 (lab_finv fx) white_x) (mul binary32 (lab_finv fy) white_y) (mul binary32 (lab_finv fz) white_z)

abbrev pub linear_to_lab : Linear → Lab
linear_to_lab c = xyz_to_lab (linear_to_xyz c)

abbrev pub lab_to_linear : Lab → Linear
lab_to_linear c = xyz_to_linear (lab_to_xyz c)

abbrev pub srgb8_to_lab : Srgb8 → Lab
srgb8_to_lab c = linear_to_lab (srgb8_to_linear c)

-- C = √(a² + b²), and the distance of two colours in the plane of a and b
unfoldable pub length2 : Float → Float → Float
length2 a b = sqrt_of (add binary32 (mul binary32 a a) (mul binary32 b b))

unfoldable pub chroma : Lab → Float
chroma c = length2 c.a c.b

unfoldable pub ab_distance : Lab → Lab → Float
ab_distance c d = length2 (sub binary32 c.a d.a) (sub binary32 c.b d.b)
