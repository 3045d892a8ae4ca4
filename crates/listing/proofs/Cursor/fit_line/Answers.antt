-- `listing::Cursor::fit_line` meets its contract: its pieces, one after the other. Assumes nothing.
use Rattle.listing.proofs.Write.{pieces}
use Rattle.listing.specs.Listing.{fit_line}
use Rattle.listing.proofs.Cursor.fit_line.Goals as goal

pub returns : goal.returns
unfolding fit_line
returns c = search (pieces) depth 20 fits 50000
