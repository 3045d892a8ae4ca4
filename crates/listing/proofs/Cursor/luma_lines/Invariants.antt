-- `listing::Cursor::luma_lines` meets its contract: the lines before this one are written. Assumes nothing.
use Rattle.listing.specs.Text.{lines_below}
use Rattle.listing.specs.Listing.{luma_line_at}
use Rattle.listing.specs.Writes.{Writes}
use Rattle.listing.proofs.Cursor.luma_lines.Given as goal

abbrev pub invariant-loop-i : goal.invariant-loop-i
invariant-loop-i l = Writes (lines_below (luma_line_at l.xs l.ys l.scores l.bits) l.i) l.initial.self l.self
