-- `listing::Cursor::chroma_lines` meets its contract: the lines before this one are written. Assumes nothing.
use Rattle.listing.specs.Text.{lines_below}
use Rattle.listing.specs.Listing.{chroma_line_at}
use Rattle.listing.specs.Writes.{Writes}
use Rattle.listing.proofs.Cursor.chroma_lines.Given as goal

abbrev pub invariant-loop-place : goal.invariant-loop-place
invariant-loop-place l = Writes (lines_below (chroma_line_at l.places.scores.now l.places.bits.now) l.place) l.initial.self l.self
