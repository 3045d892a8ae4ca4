-- `refine::refine` meets its contract: the grid, the scores, and the scratch cleared; what lies behind the grid was never written. Assumes nothing.
use mathlib.Core.List.{List, ◌++◌}
use mathlib.Core.Path.{◌≡◌, refl, ap, ◌∙◌}
use Prim.Native.Nat.{ℕ, ◌≤◌}
use borrow.Author.Rules.{rules}
use lib.Ieee.{Float, nan, binary32, of_bits}
use lib.IntN.{ℤ}
use lib.ListN.{length, replicate, take, drop}
use lib.Seq.{length-take-le}
use Rattle.order.specs.Median.{zero32}
use Rattle.layout.specs.Groups.{Positions}
use Rattle.refine.proofs.Grid.{tail_kept}
use Rattle.refine.specs.Refine.{levels_of, filled, placed, squares, grid_of, refine_all, lent, refined}
use Rattle.refine.specs.declared.Levels.{Levels}
use Rattle.stats.specs.declared.ChannelStats.{ChannelStats}
use Rattle.refine.proofs.refine.Goals as goal

none : of_bits binary32 0x7fc0_0000 ≡ nan
unfolding of_bits
none = refl

-- the first n entries of l are overwritten with v
filled_by : (n : ℕ) (v : Float) (l s : List Float) → n ≤ length l → s ≡ replicate (length (take n l)) v → s ++ drop n l ≡ filled n v l
filled_by n v l s h e = ap (λ (x : List Float). x ++ drop n l) (e ∙ ap (λ (k : ℕ). replicate k v) (length-take-le n l h))

module _ (noise : ChannelStats) (palette : List Float) (hues side g : ℕ) (xs ys : List ℤ) (colours luma scratch : List Float) (p : Positions side g xs ys) where
  cleared : (n : ℕ) (z : Float) (a : List Float) → n ≡ squares side → z ≡ zero32 → a ≡ grid_of side xs ys colours scratch → filled n z a ≡ filled (squares side) zero32 scratch
  cleared n z a en ez ea = rw (en, ez, ea) (ap (λ (t : List Float). replicate (squares side) zero32 ++ t) (tail_kept side g xs ys colours scratch p))

  all : (n : ℕ) (lv : Levels) (v z : Float) (a b c l : List Float) → n ≡ squares side → lv ≡ levels_of palette → a ≡ filled n v scratch → v ≡ nan
      → b ≡ placed side xs ys colours a → l ≡ refine_all noise palette hues lv side xs ys colours b luma → c ≡ filled n z b → z ≡ zero32
      → lent l c ≡ refined noise palette hues side xs ys colours luma scratch
  unfolding refined
  all n lv v z a b c l en elv ea ev eb el ec ez =
      let q : b ≡ grid_of side xs ys colours scratch = eb ∙ ap (placed side xs ys colours) (ea ∙ rw (en, ev)) in
      rw (el, ec, elv) (rw (cleared n z b en ez q, q))

zero : of_bits binary32 0 ≡ zero32
unfolding of_bits
zero = refl

pub returns : goal.returns
returns c =
    let at = c in
    let p : Positions at.args.card.modules.side at.args.card.modules.grid at.args.card.modules.xs.now at.args.card.modules.ys.now = search rules in
    let q : at.squares-n.result ≤ length at.args.scratch.now = search rules in
    let r : at.squares-n.result ≤ length at.place_all.new.out = search rules in
    all _ _ _ _ _ _ _ _ _ _ p _ _ _ _ _ _ _ _ at.squares-n.ensures at.levels_of-levels.ensures (filled_by _ _ _ _ q (at.fill.ensures.after (search rules))) none
    at.place_all.ensures at.refine_all.ensures (filled_by _ _ _ _ r (at.fill-2.ensures.after (search rules))) zero
