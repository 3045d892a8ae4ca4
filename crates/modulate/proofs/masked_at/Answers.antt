-- `modulate::masked_at` meets its contract: a grid module is inside the grid, and its coordinates are read as they stand. Assumes nothing.
use mathlib.Core.Path.{◌≡◌, ap}
use borrow.Author.Rules.{rules}
use mathlib.Core.Bool.{Bool}
use mathlib.Core.List.{List}
use Prim.Native.Nat.{ℕ}
use lib.IntN.{ℤ, pos, nat_abs}
use lib.ListN.{get_or}
use Rattle.layout.specs.Groups.{Positions}
use Rattle.layout.proofs.Laws.{position_at}
use Rattle.symbols.specs.Mask.{luma_mask}
use Rattle.modulate.specs.Score.{coordinate, masked_at}
use Rattle.modulate.proofs.Ready.{column_in_grid, row_in_grid}
use Rattle.modulate.proofs.masked_at.Goals as goal

steps : (id : ℕ) (xs ys : List ℤ) (i x y : ℕ) (r : Bool) → pos x ≡ get_or xs i (pos 0) → pos y ≡ get_or ys i (pos 0) → r ≡ luma_mask id x y → r ≡ masked_at id xs ys i
unfolding masked_at
steps id xs ys i x y r ex ey e =
    let p : x ≡ coordinate xs i = ap nat_abs ex in
    let q : y ≡ coordinate ys i = ap nat_abs ey in
    cc

pub coordinate_at-x-requires : goal.coordinate_at-x-requires
coordinate_at-x-requires c =
    let at = c in
    let p : Positions at.args.modules.now.side at.args.modules.now.grid at.args.modules.now.xs.now at.args.modules.now.ys.now = search rules in
    (search rules, search rules, column_in_grid _ _ _ _ _ (position_at _ _ _ _ _ p (search rules)) at.requires)

pub coordinate_at-y-requires : goal.coordinate_at-y-requires
coordinate_at-y-requires c =
    let at = c in
    let p : Positions at.args.modules.now.side at.args.modules.now.grid at.args.modules.now.xs.now at.args.modules.now.ys.now = search rules in
    (search rules, search rules, row_in_grid _ _ _ _ _ (position_at _ _ _ _ _ p (search rules)) at.requires)

pub returns : goal.returns
returns c = search (steps)
