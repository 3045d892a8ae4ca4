-- `equations::append_terms` meets its contract: what is left of the terms from k on is written. Assumes nothing.
use Rattle.loops.proofs.Laws.{turn_to, loops}
use Rattle.equations.specs.Once.{append_at}
use borrow.Author.Rules.{rules}
use Rattle.equations.proofs.Widths.{parts}
use Rattle.equations.proofs.append_terms.Goals as goal

pub loop-k-init : goal.loop-k-init
loop-k-init c = search (loops, rules)

pub loop-k-preserved : goal.loop-k-preserved
unfolding append_at
loop-k-preserved c = search (turn_to, parts, rules)

pub returns : goal.returns
returns c = search (loops, parts, rules)
