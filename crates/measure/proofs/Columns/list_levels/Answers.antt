-- `Columns::list_levels` meets its contract: one list behind the other. Assumes nothing.
use Rattle.measure.proofs.Sigmas.{few_in, second_fits, both_lists}
use borrow.Author.Rules.{rules}
use Rattle.measure.proofs.Columns.list_levels.Goals as goal

pub list-k-requires : goal.list-k-requires
list-k-requires c = (search rules, search rules, search (few_in))

pub list-requires : goal.list-requires
list-requires c = (search rules, search rules, second_fits _ _ _ c.list-k.ensures.1 c.args.self.now.fit)

pub returns : goal.returns
returns c = (search (both_lists), search rules)
