-- `listing::Cursor::chroma_lines` meets its contract: each turn writes one line. Assumes nothing.
use mathlib.Core.List.{List}
use Prim.Native.Nat.{ℕ, ◌+◌}
use lib.ListN.{get_or}
use lib.Ieee.{Float, nan}
use Rattle.listing.specs.declared.Cursor.{Cursor}
use Rattle.listing.specs.Text.{lines_below}
use Rattle.listing.specs.Listing.{chroma_line, chroma_line_at}
use Rattle.listing.specs.Writes.{Writes}
use Rattle.listing.proofs.Write.{no_lines, next_line}
use Rattle.listing.proofs.Cursor.chroma_lines.Goals as goal

next : (scores : List Float) (bits : List ℕ) (i : ℕ) (x y z : Cursor) → Writes (lines_below (chroma_line_at scores bits) i) x y → Writes (chroma_line i (get_or scores i nan) (get_or bits i 0)) y z →
    Writes (lines_below (chroma_line_at scores bits) (i + 1)) x z
next scores bits i x y z e f = next_line (chroma_line_at scores bits) i x y z e f

pub loop-place-init : goal.loop-place-init
loop-place-init c = no_lines _ _

pub loop-place-preserved : goal.loop-place-preserved
loop-place-preserved c = search (next)
