-- Worked examples of each definition, which antt computes. Assumes nothing.
use Rattle.std.specs.Prelude.{◌≡◌, ℕ, true, false, [], ◌∷◌, map, pos, refl, Float}
use Rattle.std.specs.Float.{nan, inf, fin, binary32, binary64}
use Rattle.std.specs.Float.Ieee.{lt, is_nan, of_bits, to_bits}
use Rattle.float.specs.Select.{abs, max, min, clamp}
use Rattle.float.specs.Single.{to_single}
use Rattle.float.specs.Root.{sqrt_of, cbrt_of}

abbrev plus0 : Float
plus0 = fin false 0 (pos 0)

abbrev minus0 : Float
minus0 = fin true 0 (pos 0)

abbrev one : Float
one = fin false 1 (pos 0)

abbrev three : Float
three = fin false 3 (pos 0)

-- ---- the cube root of 27 is 3
pub cbrt_27 : cbrt_of (fin false 27 (pos 0)) ≡ three
unfolding cbrt_of
cbrt_27 = refl

-- and by bit patterns: of -27, of 2, of the smallest subnormal value, of the largest value, of the value just below 8, which rounds up to 2
cbrts : map (λ b. to_bits binary32 (cbrt_of (of_bits binary32 b))) (0xc1d8_0000 ∷ 0x4000_0000 ∷ 1 ∷ 0x7f7f_ffff ∷ 0x40ff_ffff ∷ [])
    ≡ 0xc040_0000 ∷ 0x3fa1_4518 ∷ 0x26a1_4518 ∷ 0x54cb_2ff5 ∷ 0x4000_0000 ∷ []
unfolding cbrt_of of_bits to_bits
cbrts = refl

-- the zeros, the infinities and a NaN
cbrt_special : map cbrt_of (plus0 ∷ minus0 ∷ inf false ∷ inf true ∷ nan ∷ []) ≡ plus0 ∷ minus0 ∷ inf false ∷ inf true ∷ nan ∷ []
unfolding cbrt_of
cbrt_special = refl

-- ---- the square root of 9 is 3; and of 2, of the smallest subnormal value, and of the largest value, whose root has all its digits set
sqrt_9 : sqrt_of (fin false 9 (pos 0)) ≡ three
unfolding sqrt_of
sqrt_9 = refl

sqrts : map (λ b. to_bits binary32 (sqrt_of (of_bits binary32 b))) (0x4000_0000 ∷ 1 ∷ 0x7f7f_ffff ∷ []) ≡ 0x3fb5_04f3 ∷ 0x1a35_04f3 ∷ 0x5f7f_ffff ∷ []
unfolding sqrt_of of_bits to_bits
sqrts = refl

sqrt_special : map sqrt_of (plus0 ∷ minus0 ∷ inf false ∷ inf true ∷ fin true 1 (pos 0) ∷ nan ∷ []) ≡ plus0 ∷ minus0 ∷ inf false ∷ nan ∷ nan ∷ nan ∷ []
unfolding sqrt_of
sqrt_special = refl

-- ---- f64 to f32, with the answers of C's `(float)x` on x86-64
abbrev narrowed : ℕ → ℕ
narrowed b = to_bits binary32 (to_single (of_bits binary64 b))

-- 0.1; ties to even, down and up, and a negative value just past a tie
ties : map narrowed (0x3fb9_9999_9999_999a ∷ 0x3ff0_0000_1000_0000 ∷ 0x3ff0_0000_3000_0000 ∷ 0xbff0_0000_1000_0001 ∷ [])
    ≡ 0x3dcc_cccd ∷ 0x3f80_0000 ∷ 0x3f80_0002 ∷ 0xbf80_0001 ∷ []
unfolding to_single of_bits to_bits
ties = refl

-- the largest single, negated; the last value below the tie with the infinity; that tie
overflows : map narrowed (0xc7ef_ffff_e000_0000 ∷ 0x47ef_ffff_efff_ffff ∷ 0x47ef_ffff_f000_0000 ∷ []) ≡ 0xff7f_ffff ∷ 0x7f7f_ffff ∷ 0x7f80_0000 ∷ []
unfolding to_single of_bits to_bits
overflows = refl

-- the subnormals: half of the smallest, just above that, one and a half of it, a carry into the normal range, and the smallest double
subnormals : map narrowed (0x3690_0000_0000_0000 ∷ 0x3690_0000_0000_0001 ∷ 0x36a8_0000_0000_0000 ∷ 0x380f_ffff_ffff_ffff ∷ 1 ∷ [])
    ≡ 0 ∷ 1 ∷ 2 ∷ 0x0080_0000 ∷ 0 ∷ []
unfolding to_single of_bits to_bits
subnormals = refl

narrow_special : map to_single (plus0 ∷ minus0 ∷ inf false ∷ inf true ∷ nan ∷ []) ≡ plus0 ∷ minus0 ∷ inf false ∷ inf true ∷ nan ∷ []
unfolding to_single
narrow_special = refl

-- ---- sign, larger, smaller, limited: at a NaN, and at zeros of both signs, of which `max` and `min` take the first
absolutes : map abs (minus0 ∷ plus0 ∷ fin true 3 (pos 0) ∷ inf true ∷ nan ∷ []) ≡ plus0 ∷ plus0 ∷ three ∷ inf false ∷ nan ∷ []
unfolding abs
absolutes = refl

maxima : max one three ∷ max nan one ∷ max one nan ∷ max nan nan ∷ max plus0 minus0 ∷ max minus0 plus0 ∷ [] ≡ three ∷ one ∷ one ∷ nan ∷ plus0 ∷ minus0 ∷ []
unfolding max lt is_nan
maxima = refl

minima : min one three ∷ min nan one ∷ min one nan ∷ min nan nan ∷ min plus0 minus0 ∷ min minus0 plus0 ∷ [] ≡ one ∷ one ∷ one ∷ nan ∷ plus0 ∷ minus0 ∷ []
unfolding min lt is_nan
minima = refl

-- from 0 to 1: a NaN is left, and so is -0, which is not below 0
clamped : map (clamp plus0 one) (three ∷ inf true ∷ one ∷ minus0 ∷ nan ∷ []) ≡ one ∷ plus0 ∷ one ∷ minus0 ∷ nan ∷ []
unfolding clamp lt
clamped = refl
