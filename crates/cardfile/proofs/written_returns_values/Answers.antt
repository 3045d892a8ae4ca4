-- `cardfile::written_returns_values` meets its contract: each number is read where it was written. Assumes nothing.
use Rattle.cardfile.proofs.Written.{returned}
use Rattle.cardfile.proofs.written_returns_values.Goals as goal

pub returns : goal.returns
returns c = returned
