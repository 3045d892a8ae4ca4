-- `cardfile::case_is_read` meets its contract: antt computed it. Assumes nothing.
use Rattle.cardfile.proofs.Case.{the-case}
use Rattle.cardfile.proofs.case_is_read.Goals as goal

pub returns : goal.returns
returns c = the-case
