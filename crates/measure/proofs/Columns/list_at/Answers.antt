-- `Columns::list_at` meets its contract: by the test of the room, and then that of the mark. Assumes nothing.
use Rattle.measure.proofs.Listing.{step_in, step_out, step_full}
use borrow.Author.Rules.{rules}
use Rattle.measure.proofs.Columns.list_at.Goals as goal

pub returns-then-counts : goal.returns-then-counts
returns-then-counts c = search (step_in, rules)

pub returns-else-counts : goal.returns-else-counts
returns-else-counts c = search (step_out, rules)

pub returns-else-k-self : goal.returns-else-k-self
returns-else-k-self c = search (step_full, rules)
