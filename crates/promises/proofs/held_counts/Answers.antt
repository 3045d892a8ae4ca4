-- `promises::held_counts` meets its contract: what a call counts is how often a test holds. Assumes nothing.
use Rattle.promises.proofs.Marks.{references, reported}
use Rattle.promises.proofs.held_counts.Goals as goal

pub returns : goal.returns
returns c = record { measured = references; scored = reported }
