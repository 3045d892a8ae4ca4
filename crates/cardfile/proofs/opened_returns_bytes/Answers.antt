-- `cardfile::opened_returns_bytes` meets its contract: each byte is written where it was read. Assumes nothing.
use Rattle.cardfile.proofs.Rewritten.{rewritten}
use Rattle.cardfile.proofs.opened_returns_bytes.Goals as goal

pub returns : goal.returns
returns c = rewritten
