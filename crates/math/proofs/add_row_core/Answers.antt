-- `math::add_row_core` meets its contract: a matrix of at most 18 by 18 is within the 324 elements. Assumes nothing.
use borrow.Author.Rules.{rules}
use Rattle.math.proofs.Accepted.{square-fits}
use Rattle.math.proofs.add_row_core.Goals as goal

pub add_lines-requires : goal.add_lines-requires
add_lines-requires c = search (square-fits, rules)
