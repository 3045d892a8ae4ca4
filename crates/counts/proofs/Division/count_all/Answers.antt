-- `Division::count_all` meets its contract: what is left from i on gives the same, and the counts so far add up to i. Assumes nothing.
use borrow.Author.Rules.{rules}
use Rattle.loops.proofs.Laws.{loops}
use Rattle.counts.proofs.Sums.{all_turns}
use Rattle.counts.proofs.Division.count_all.Goals as goal

pub returns : goal.returns
returns c = (search (loops, rules), search (all_turns, rules))

pub loop-i-init : goal.loop-i-init
loop-i-init c = search (loops, rules)

pub loop-i-preserved : goal.loop-i-preserved
loop-i-preserved c = search (loops, rules)
