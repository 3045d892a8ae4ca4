-- `local::weights` meets its contract: after i turns the first i places are the classes as numbers. Assumes nothing.
use borrow.Author.Rules.{rules}
use Rattle.local.specs.Sums.{weight_at}
use Rattle.local.proofs.Firsts.{firsts}
use Rattle.local.proofs.weights.Goals as goal

pub loop-i-init : goal.loop-i-init
loop-i-init c = search (firsts, rules)

pub loop-i-preserved : goal.loop-i-preserved
unfolding weight_at
loop-i-preserved c = search (firsts, rules)

pub returns : goal.returns
returns c = search (firsts, rules)
