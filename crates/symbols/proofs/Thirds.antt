-- A third without a division: 3 × 43,691 = 2^17 + 1, so for n = 3 q + r the product n × 43,691 is 2^17 q + (q + 43,691 r), and what is left over, q + 43,691 r, is below 2^17 for every n below 131,072. At 131,072 itself
-- it is not: there the product gives 43,691 and the third is 43,690. Coordinates are below 65,536. Assumes nothing.
use mathlib.Core.Path.{◌≡◌}
use Prim.Native.Nat.{ℕ, ◌*◌, ◌/◌, ◌<◌}
use native.Mathlib.Omega.{arith}

pub third_by_product : (n : ℕ) → n < 131072 → n * 43691 / 131072 ≡ n / 3
third_by_product n h = omega arith
