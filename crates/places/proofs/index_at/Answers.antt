-- `places::index_at` meets its contract: the module is inside the ring, and its coordinates are read as they stand. Assumes nothing.
use mathlib.Core.Path.{◌≡◌}
use mathlib.Core.Bool.{false}
use Prim.Native.Nat.{ℕ, ◌^◌, ◌<◌}
use borrow.Author.Rules.{rules, sfits_of}
use lib.IntN.{ℤ}
use lib.Signed.{mag}
use mir.Syntax.{w32}
use mir.Val.{to_z, of_z}
use mir.Facts.{to_z-of_z}
use Rattle.places.specs.Places.{outside, misplaced, index_of}
use Rattle.places.proofs.Placed.{in_ring}
use Rattle.places.proofs.index_at.Goals as goal

module _ (side grid i : ℕ) (x y : ℤ) (h : misplaced side grid i x y ≡ false) where
  ring_x : mag x < 2 ^ 31 → outside side 6 (to_z w32 (of_z w32 x)) ≡ false
  ring_x f = rw (to_z-of_z (sfits_of {w = w32} {z = x} f)) (in_ring side grid i x y h).0

  ring_y : mag y < 2 ^ 31 → outside side 6 (to_z w32 (of_z w32 y)) ≡ false
  ring_y f = rw (to_z-of_z (sfits_of {w = w32} {z = y} f)) (in_ring side grid i x y h).1

same : (side r : ℕ) (x y : ℤ) → r ≡ index_of side (to_z w32 (of_z w32 x)) (to_z w32 (of_z w32 y)) → mag x < 2 ^ 31 → mag y < 2 ^ 31 → r ≡ index_of side x y
same side r x y e fx fy = rw (to_z-of_z (sfits_of {w = w32} {z = x} fx), to_z-of_z (sfits_of {w = w32} {z = y} fy)) at e

pub index-requires : goal.index-requires
index-requires c = (search rules, search (ring_x), search (ring_y))

pub returns : goal.returns
returns c = (search (same), search rules)
