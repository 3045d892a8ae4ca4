-- `listing::Cursor::chroma_line` meets its contract: its pieces, one after the other. Assumes nothing.
use Rattle.listing.proofs.Write.{pieces}
use Rattle.listing.specs.Listing.{chroma_line}
use Rattle.listing.proofs.Cursor.chroma_line.Goals as goal

pub returns : goal.returns
unfolding chroma_line
returns c = search (pieces) depth 10 fits 50000
