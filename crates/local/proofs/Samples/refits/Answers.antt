-- `local::Samples::refits` meets its contract: what is left of the 8 turns takes the classes to the answer. Assumes nothing.
use borrow.Author.Rules.{rules}
use Rattle.loops.proofs.Laws.{loops}
use Rattle.local.proofs.Samples.refits.Goals as goal

pub loop-init : goal.loop-init
loop-init c = search (loops, rules)

pub loop-preserved : goal.loop-preserved
loop-preserved c = search (loops, rules)

pub returns : goal.returns
returns c = search (loops, rules)
