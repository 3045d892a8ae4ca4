-- The transfer function of IEC 61966-2-1 at the 256 bytes: up to 0.04045, which is 10.3 / 255, the encoded value over 12.92, and above it
-- ((value + 0.055) / 1.055) ^ 2.4. With v / 255 for the value these are v / 3294.6 and the 12/5 power of (40v + 561) / 10761. Definitions only.
use Rattle.std.specs.Prelude.{ℕ, zero, suc, ◌+◌, ◌-◌, ◌*◌, ◌^◌, ◌<◌, ◌≡◌, Bool, false, cond, leb, ltb, Float}
use Rattle.std.specs.Float.{binary32}
use Rattle.std.specs.Float.Ieee.{of_bits}
use Rattle.floatlaws.specs.Value.{mag, negative}
use Rattle.floatlaws.specs.Finite.{Fin}
use Rattle.floatlaws.specs.Bits.{value_of}

-- a real number of 0 or more by one of its powers, num / den
pub record Root : Type 0 where
  pub power : ℕ
  pub num : ℕ
  pub den : ℕ

abbrev pub root : ℕ → ℕ → ℕ → Root
root k n d = record { power = k; num = n; den = d }

-- the linear value of byte v
unfoldable pub curve : ℕ → Root
curve v = cond (leb v 10) (root 1 (10 * v) 32946) (root 5 ((40 * v + 561) ^ 12) (10761 ^ 12))

-- The powers of m * 2 ^ -150 and of x, both multiplied by den * 2 ^ (150 * power): whole numbers, which compare as the two do.
abbrev pub power_of : Root → ℕ → ℕ
power_of x m = m ^ x.power * x.den

abbrev pub own_power : Root → ℕ
own_power x = x.num * 2 ^ (150 * x.power)

-- m * 2 ^ -150 is below x
unfoldable pub below : ℕ → Root → Bool
below m x = ltb (power_of x m) (own_power x)

-- The patterns of the floats from 0 up stand in the order of their values, so that of the float nearest to x is the largest pattern p for which
-- the middle of p and the one before is below x. It is p with k more binary digits: each is 1 where what stands there is such a pattern.
-- (A value is in units of 2 ^ -149, so the middle of two is their sum in units of 2 ^ -150.)
unfoldable pub digits : Root → ℕ → ℕ → ℕ
unfolding value_of below
digits x zero p = p
digits x (suc k) p = digits x k (cond (below (value_of binary32 (p + 2 ^ k - 1) + value_of binary32 (p + 2 ^ k)) x) (p + 2 ^ k) p)

-- the bit pattern of the f32 nearest to a number up to 1: 0x3f800000, that of 1, has 30 digits
unfoldable pub nearest_bits : Root → ℕ
unfolding digits
nearest_bits x = digits x 30 0

-- the linear light of byte v
unfoldable pub srgb_to_linear : ℕ → Float
unfolding nearest_bits
srgb_to_linear v = of_bits binary32 (nearest_bits (curve v))

-- ---- what it is to be the float nearest to such a number: `proofs/Linears.antt` proves that `srgb_to_linear` is that at every byte

-- x is nearer to a * 2 ^ -149 than to b * 2 ^ -149, where b is not a: it lies on a's side of the middle of the two
abbrev pub Nearer : Root → ℕ → ℕ → Type 0
Nearer x a b = (a < b → own_power x < power_of x (a + b)) × (b < a → power_of x (a + b) < own_power x)

-- r is a finite f32 that is not negative, and x is nearer to it than to any other finite f32. (A negative one is no nearer than the one of its
-- size.) The comparisons are strict: there is no tie.
pub record NearestTo (x : Root) (r : Float) : Type 0 where
  pub is : Fin binary32 r
  pub sign : negative r ≡ false
  pub nearest : (y : Float) → Fin binary32 y → Nearer x (mag binary32 r) (mag binary32 y)
