-- What it is to be the float nearest to a root, by comparing whole numbers. `proofs/Nearest.antt` proves that `sqrt_of` and `cbrt_of` are that, and
-- that no other float is. Definitions only.
use Rattle.std.specs.Prelude.{◌≡◌, ℕ, zero, suc, ◌+◌, ◌-◌, ◌*◌, ◌^◌, ◌<◌, Bool, true, false, Float}
use Rattle.std.specs.Float.{nan, inf, fin, binary32}
use Rattle.floatlaws.specs.Value.{mag, negative}
use Rattle.floatlaws.specs.Finite.{Fin}

-- With ε for 2 ^ -149: the n-th root of u * ε is nearer to a * ε than to b * ε, where b is not a: it lies on a's side of the middle of the two, (a
-- + b) * ε / 2. Said of the n-th powers, with both sides multiplied by (2 / ε) ^ n.
abbrev pub Nearer : ℕ → ℕ → ℕ → ℕ → Type 0
Nearer n u a b = (a < b → u * 2 ^ n * 2 ^ (149 * (n - 1)) < (a + b) ^ n) × (b < a → (a + b) ^ n < u * 2 ^ n * 2 ^ (149 * (n - 1)))

-- r is a finite f32 with the sign s, and the n-th root of u * ε is nearer to its size than to that of any other finite f32.
-- (A float of the other sign is no nearer than the one of its size with this sign.) The comparisons are strict: there is no tie.
pub record NearestRoot (n : ℕ) (s : Bool) (u : ℕ) (r : Float) : Type 0 where
  pub is : Fin binary32 r
  pub sign : negative r ≡ s
  pub nearest : (y : Float) → Fin binary32 y → Nearer n u (mag binary32 r) (mag binary32 y)

-- r is the square root of x: "Roots of either zero, of positive infinity and of NaN are themselves; a square root below zero is NaN"
abbrev pub IsSqrt : Float → Float → Type 0
IsSqrt nan r = r ≡ nan
IsSqrt (inf false) r = r ≡ inf false
IsSqrt (inf true) r = r ≡ nan
IsSqrt (fin s zero e) r = r ≡ fin s zero e
IsSqrt (fin false (suc m) e) r = NearestRoot 2 false (mag binary32 (fin false (suc m) e)) r
IsSqrt (fin true (suc m) e) r = r ≡ nan

-- r is the cube root of x: "a cube root keeps the sign", that of minus infinity too
abbrev pub IsCbrt : Float → Float → Type 0
IsCbrt nan r = r ≡ nan
IsCbrt (inf s) r = r ≡ inf s
IsCbrt (fin s zero e) r = r ≡ fin s zero e
IsCbrt (fin s (suc m) e) r = NearestRoot 3 s (mag binary32 (fin s (suc m) e)) r
