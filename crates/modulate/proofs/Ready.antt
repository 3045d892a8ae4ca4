-- What the functions behind the calls ask, from the sentences that are passed: a hue count that passes 3 is one of 1 to 16, and a grid module that passes 7 has both coordinates in the grid. Assumes nothing.
use mathlib.Core.Path.{◌≡◌}
use mathlib.Core.Bool.{false}
use mathlib.Core.List.{List}
use Prim.Native.Nat.{ℕ, ◌<◌, ◌≤◌}
use lib.IntN.{ℤ, pos}
use lib.ListN.{get_or}
use Rattle.places.specs.Places.{outside}
use Rattle.places.proofs.Placed.{in_grid}
use Rattle.limits.specs.Limits.{bad_hues}
use Rattle.limits.proofs.Laws.{hues_in}
use Rattle.layout.specs.Groups.{PositionAt}

pub hues-least : (k : ℕ) → bad_hues k ≡ false → 0 < k
hues-least k h = (hues_in k h).least

pub hues-most : (k : ℕ) → bad_hues k ≡ false → k ≤ 16
hues-most k h = (hues_in k h).most

module _ (side grid : ℕ) (xs ys : List ℤ) (i : ℕ) (p : PositionAt side grid xs ys i) (l : i < grid) where
  pub column_in_grid : outside side 0 (get_or xs i (pos 0)) ≡ false
  column_in_grid = (in_grid side grid i (get_or xs i (pos 0)) (get_or ys i (pos 0)) p.place-good l).0

  pub row_in_grid : outside side 0 (get_or ys i (pos 0)) ≡ false
  row_in_grid = (in_grid side grid i (get_or xs i (pos 0)) (get_or ys i (pos 0)) p.place-good l).1
