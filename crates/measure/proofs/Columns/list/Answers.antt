-- `Columns::list` meets its contract: what is listed before turn i, with what is left from i on, is the whole. Assumes nothing.
use Rattle.measure.proofs.Listing.{list-begin, list-upto, list-long, list-turn, list-taken, list_count}
use borrow.Author.Rules.{rules}
use Rattle.measure.proofs.Columns.list.Goals as goal

pub loop-i-init : goal.loop-i-init
loop-i-init c = search (list-begin, rules)

pub list_at-r-requires : goal.list_at-r-requires
list_at-r-requires c = search (list-long, rules)

pub loop-i-preserved : goal.loop-i-preserved
loop-i-preserved c = search (list-turn, rules)

pub returns : goal.returns
returns c = (search (list-taken, rules), search (list_count, rules), search (list-upto))
