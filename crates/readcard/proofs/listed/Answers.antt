-- `readcard::listed` meets its contract: every card file's text has room in its slice, so the text stands there whole. Assumes nothing.
use Rattle.listing.proofs.Within.{within_is}
use Rattle.reader.proofs.Room.{whole}
use Rattle.readcard.proofs.listed.Goals as goal

pub slice_bounds-result-end : goal.slice_bounds-result-end
slice_bounds-result-end c = search (within_is)

pub returns : goal.returns
returns c = let e = c.read_card-n.ensures in (whole _ _ _ _ e.0 e.1 c.requires).text_is
