-- `places::index` meets its contract.
-- Assumes nothing.
use mathlib.Core.Path.{◌≡◌}
use mathlib.Core.Bool.{false}
use Prim.Native.Nat.{ℕ, ◌+◌, ◌*◌, ◌≤◌, ◌<◌}
use native.Mathlib.Omega.{arith}
use lib.IntN.{ℤ, negsuc}
use lib.Signed.{lt_z}
use mir.Syntax.{w32, w64}
use mir.Val.{Fits, SFits, to_z, of_z}
use mir.Facts.{to_z-of_z}
use Rattle.places.specs.Places.{offset, outside, index_of}
use native.Mathlib.Nat.{mul-le-mul, le_refl}
use Rattle.loops.proofs.Laws.{cell}
use Rattle.places.proofs.Signed.{inside-ring, not-low}
use Rattle.places.proofs.index.Goals as goal

module _ (side : ℕ) (y : ℤ) (v : ℕ) (s : side ≤ 1024) (h : outside side 6 y ≡ false) (f : SFits w32 y) (e : v ≡ offset (to_z w32 (of_z w32 y))) where
  below : v < side + 12
  below = rw (e, to_z-of_z f) (inside-ring side y s h)

  square : (side + 12) * (side + 12) ≤ 1036 * 1036
  square = let h : side + 12 ≤ 1036 = omega arith in mul-le-mul h h

  row_fits : Fits w64 (v * (side + 12))
  row_fits = record { fits = omega (arith, cell below below (le_refl ((side + 12) * (side + 12))), square) }

  module _ (x : ℤ) (u : ℕ) (g : outside side 6 x ≡ false) (k : SFits w32 x) (d : u ≡ offset (to_z w32 (of_z w32 x))) where
    inside : v * (side + 12) + u < (side + 12) * (side + 12)
    inside = cell below (rw (d, to_z-of_z k) (inside-ring side x s g)) (le_refl ((side + 12) * (side + 12)))

    fits : Fits w64 (v * (side + 12) + u)
    fits = record { fits = omega (arith, inside, square) }

    same : v * (side + 12) + u ≡ index_of side x y
    same = rw (e, d, to_z-of_z f, to_z-of_z k)

low : (side : ℕ) (v : ℤ) → outside side 6 v ≡ false → SFits w32 v → lt_z (to_z w32 (of_z w32 v)) (negsuc 5) ≡ false
low side v h f = rw (to_z-of_z f) (not-low side v h)

pub offset-requires : goal.offset-requires
offset-requires c = search (low)

pub offset-requires-2 : goal.offset-requires-2
offset-requires-2 c = search (low)

pub overflow_mul-result : goal.overflow_mul-result
overflow_mul-result c = search (row_fits)

pub overflow_add-result-2 : goal.overflow_add-result-2
overflow_add-result-2 c = search (fits)

pub returns : goal.returns
returns c = search (same, inside)
