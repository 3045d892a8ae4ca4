-- `math::eliminate` meets its contract: what is left of the columns takes the system to the same end, or leaves it at the same column. Assumes nothing.
use borrow.Author.Rules.{rules}
use Rattle.loops.proofs.Laws.{loops}
use Rattle.math.proofs.eliminate.Goals as goal

pub loop-col-init : goal.loop-col-init
loop-col-init c = search (loops, rules)

pub returns-then-not-eliminate_column : goal.returns-then-not-eliminate_column
returns-then-not-eliminate_column c = search (loops, rules)

pub loop-col-preserved : goal.loop-col-preserved
loop-col-preserved c = search (loops, rules)

pub returns : goal.returns
returns c = search (loops, rules)
