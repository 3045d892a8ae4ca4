-- `places::coordinate` meets its contract.
-- Assumes nothing.
use mathlib.Core.Path.{◌≡◌}
use mathlib.Core.Bool.{false}
use Prim.Native.Nat.{ℕ, ◌≤◌}
use native.Mathlib.Omega.{arith}
use lib.IntN.{ℤ, pos}
use mir.Syntax.{w16, w32}
use mir.Val.{Fits, SFits, to_z, of_z}
use mir.Facts.{to_z-of_z}
use Rattle.places.specs.Places.{outside}
use lib.Dec.{T}
use lib.IntN.{nat_abs}
use lib.Signed.{non_neg}
use Rattle.places.proofs.Signed.{nonneg}
use Rattle.places.proofs.coordinate.Goals as goal

module _ (side : ℕ) (v : ℤ) (s : side ≤ 1024) (h : outside side 0 v ≡ false) (f : SFits w32 v) where
  positive : T (non_neg (to_z w32 (of_z w32 v)))
  positive = rw (to_z-of_z f) (nonneg side v h).0

  narrow : Fits w16 (nat_abs (to_z w32 (of_z w32 v)))
  narrow = rw (to_z-of_z f) (let p = nonneg side v h in record { fits = omega arith })

  same : pos (nat_abs (to_z w32 (of_z w32 v))) ≡ v
  same = rw (to_z-of_z f) (nonneg side v h).2

pub overflow_cast-result : goal.overflow_cast-result
overflow_cast-result c = search (positive, narrow)

pub returns : goal.returns
returns c = search (same)
