-- `promises::room_for_every_listing` meets its contract: the theorem of `reader`. Assumes nothing.
use Rattle.reader.proofs.Room.{whole}
use Rattle.promises.proofs.room_for_every_listing.Goals as goal

pub returns : goal.returns
returns c = λ s out after r e h g. let p = whole s out after r e h g in record { length_is = p.length_is; text_is = p.text_is; kept = p.kept }
