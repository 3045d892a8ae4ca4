-- `math::pivot_row` meets its contract: what is left of the rows finds the same pivot, and every row that it finds is below n. Assumes nothing.
use borrow.Author.Rules.{rules}
use Rattle.loops.proofs.Laws.{loops}
use Rattle.math.proofs.pivot_row.Goals as goal

pub loop-r-init : goal.loop-r-init
loop-r-init c = search (loops, rules)

pub loop-r-preserved : goal.loop-r-preserved
loop-r-preserved c = search (loops, rules)

pub returns : goal.returns
returns c = search (loops, rules)
