-- `refine::Spot::window` meets its contract: what is left of the seven rows takes the samples to the window; after r rows there are at most 7 r. Assumes nothing.
use borrow.Author.Rules.{rules}
use Rattle.refine.proofs.Rows.{stride, last_done}
use Rattle.refine.proofs.Spot.window.Goals as goal

pub loop-r-preserved : goal.loop-r-preserved
loop-r-preserved c = (search rules, search rules, search (stride, rules))

pub returns : goal.returns
returns c = (search (last_done, rules), search rules)
