-- The numbers of a card file, little-endian. A byte past the end counts as 0. Definitions only.
use Rattle.std.specs.Prelude.{cond, List, ℕ, ◌+◌, ◌-◌, ◌*◌, ltb, ℤ, pos, negsuc, get_or, Float}
use Rattle.std.specs.Float.{binary32}
use Rattle.std.specs.Float.Ieee.{of_bits}

-- the u16 at i: the low byte first
unfoldable pub u16_at : List ℕ → ℕ → ℕ
u16_at s i = get_or s i 0 + get_or s (i + 1) 0 * 256

-- the u32 at i: the low half first
unfoldable pub u32_at : List ℕ → ℕ → ℕ
u32_at s i = u16_at s i + u16_at s (i + 2) * 65536

-- the f32 of a bit pattern; every NaN's pattern, of either sign, gives a NaN
abbrev pub f32_of : ℕ → Float
f32_of n = of_bits binary32 n

unfoldable pub f32_at : List ℕ → ℕ → Float
f32_at s i = f32_of (u32_at s i)

-- the number that 16 bits stand for in two's complement: from 2^15 on, 2^16 less
unfoldable pub i16_of : ℕ → ℤ
i16_of n = cond (ltb n 32768) (pos n) (negsuc (65535 - n))

unfoldable pub i16_at : List ℕ → ℕ → ℤ
i16_at s i = i16_of (u16_at s i)
