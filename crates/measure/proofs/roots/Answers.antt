-- `measure::roots` meets its contract: before turn i the roots of i references are taken. Assumes nothing.
use Rattle.measure.proofs.Noting.{root-begin, root-turn, root-done}
use borrow.Author.Rules.{rules}
use Rattle.measure.proofs.roots.Goals as goal

pub loop-x-init : goal.loop-x-init
loop-x-init c = search (root-begin, rules)

pub loop-x-preserved : goal.loop-x-preserved
loop-x-preserved c = search (root-turn, rules)

pub returns : goal.returns
returns c = search (root-done, rules)
