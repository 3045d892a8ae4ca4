-- `modulate::Source::level_at` meets its contract: a grid module by the mask at its coordinates, a ring module without. Assumes nothing.
use mathlib.Core.Path.{◌≡◌, ap}
use borrow.Author.Rules.{rules}
use mathlib.Core.List.{List}
use Prim.Native.Nat.{ℕ, ◌≤◌, ◌<◌}
use borrow.Author.Tests.{lt-ltb, le-ltb}
use lib.IntN.{ℤ, pos, nat_abs}
use lib.ListN.{get_or}
use Rattle.modulate.specs.Score.{coordinate}
use Rattle.modulate.specs.Draw.{grid_level, ring_level, level_at}
use Rattle.modulate.proofs.Ready.{column_in_grid, row_in_grid}
use Rattle.modulate.proofs.Source.level_at.Goals as goal

module _ (bits : List ℕ) (xs ys : List ℤ) (g mask i r : ℕ) where
  in_the_grid : (x y : ℕ) → i < g → pos x ≡ get_or xs i (pos 0) → pos y ≡ get_or ys i (pos 0) → r ≡ grid_level (get_or bits i 0) mask x y → r ≡ level_at bits xs ys g mask i
  unfolding level_at
  in_the_grid x y h ex ey e =
      let p : x ≡ coordinate xs i = ap nat_abs ex in
      let q : y ≡ coordinate ys i = ap nat_abs ey in
      rw (lt-ltb i g h, ← p, ← q) e

  in_the_ring : g ≤ i → r ≡ ring_level (get_or bits i 0) → r ≡ level_at bits xs ys g mask i
  unfolding level_at
  in_the_ring h e = rw (le-ltb i g h) e

pub coordinate_at-x-requires : goal.coordinate_at-x-requires
coordinate_at-x-requires c = (search rules, search rules, search (column_in_grid))

pub coordinate_at-y-requires : goal.coordinate_at-y-requires
coordinate_at-y-requires c = (search rules, search rules, search (row_in_grid))

pub returns-then-i-self : goal.returns-then-i-self
returns-then-i-self c = search (in_the_grid)

pub returns-else-i-self : goal.returns-else-i-self
returns-else-i-self c = search (in_the_ring)
