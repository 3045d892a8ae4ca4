-- `cardfile::written_opens` meets its contract: the directory's pairs say where the sections are. Assumes nothing.
use Rattle.cardfile.proofs.Written.{opens}
use Rattle.cardfile.proofs.written_opens.Goals as goal

pub returns : goal.returns
returns c = opens
