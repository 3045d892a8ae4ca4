-- `card_vectors::compared` is safe and ends: the text that it compares lies in the room that it was written to. Assumes nothing.
use Rattle.listing.proofs.Within.{within, within_is}
use Rattle.card_vectors.proofs.compared.Goals as goal

pub slice_bounds-room-end : goal.slice_bounds-room-end
slice_bounds-room-end c = search (within)

pub slice_bounds-beside-end : goal.slice_bounds-beside-end
slice_bounds-beside-end c = search (within_is)
