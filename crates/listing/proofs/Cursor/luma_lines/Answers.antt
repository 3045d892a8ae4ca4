-- `listing::Cursor::luma_lines` meets its contract: each turn writes one line. Assumes nothing.
use mathlib.Core.List.{List}
use Prim.Native.Nat.{ℕ, ◌+◌}
use borrow.Author.Rules.{rules}
use lib.IntN.{ℤ, pos}
use lib.ListN.{get_or}
use lib.Ieee.{Float, nan}
use mir.Syntax.{w32}
use mir.Val.{to_z, of_z, SFits}
use mir.Facts.{to_z-of_z}
use Rattle.listing.specs.declared.Cursor.{Cursor}
use Rattle.listing.specs.Text.{lines_below}
use Rattle.listing.specs.Listing.{luma_line, luma_line_at}
use Rattle.listing.specs.Writes.{Writes}
use Rattle.listing.proofs.Write.{no_lines, next_line}
use Rattle.listing.proofs.Cursor.luma_lines.Goals as goal

module _ (xs ys : List ℤ) (scores : List Float) (bits : List ℕ) (i : ℕ) (x y z : Cursor) where
  next : Writes (lines_below (luma_line_at xs ys scores bits) i) x y →
      Writes (luma_line (to_z w32 (of_z w32 (get_or xs i (pos 0)))) (to_z w32 (of_z w32 (get_or ys i (pos 0)))) (get_or scores i nan) (get_or bits i 0)) y z →
      SFits w32 (get_or xs i (pos 0)) → SFits w32 (get_or ys i (pos 0)) → Writes (lines_below (luma_line_at xs ys scores bits) (i + 1)) x z
  next e f fx fy = next_line (luma_line_at xs ys scores bits) i x y z e (rw (to_z-of_z fx, to_z-of_z fy) at f)

pub loop-i-init : goal.loop-i-init
loop-i-init c = no_lines _ _

pub loop-i-preserved : goal.loop-i-preserved
loop-i-preserved c =
    let m = c.args.modules.now in
    let fx : SFits w32 (get_or m.xs.now c.loop-i.i (pos 0)) = search rules in
    let fy : SFits w32 (get_or m.ys.now c.loop-i.i (pos 0)) = search rules in
    next m.xs.now m.ys.now m.scores.now m.bits.now c.loop-i.i _ _ _ c.loop-i.invariant c.luma_line.ensures fx fy
