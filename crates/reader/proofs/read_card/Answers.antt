-- `reader::read_card` meets its contract: a file that is refused is listed by its number, any other has what the calls after it need. Assumes nothing.
use Rattle.reader.proofs.Next.{opens, not_opened}
use Rattle.reader.proofs.Held.{fits}
use Rattle.reader.proofs.Room.{refused_in, opened_in}
use Rattle.reader.proofs.read_card.Goals as goal

pub read_opened-requires : goal.read_opened-requires
read_opened-requires c = search (fits)

pub returns-in-Err : goal.returns-in-Err
returns-in-Err c = (search (not_opened), search (refused_in))

pub returns-in-Ok : goal.returns-in-Ok
returns-in-Ok c = (search (opens), search (opened_in))
