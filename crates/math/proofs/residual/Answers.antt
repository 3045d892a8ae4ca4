-- `math::residual` meets its contract: what is left of the row gives the same difference. Assumes nothing.
use borrow.Author.Rules.{rules}
use Rattle.loops.proofs.Laws.{turn_to, loops}
use Rattle.math.specs.Gauss as gauss
use Rattle.math.proofs.residual.Goals as goal

pub loop-k-preserved : goal.loop-k-preserved
unfolding gauss.residual_at
loop-k-preserved c = turn_to c.loop-k.invariant c.loop-k-test.true (cc)

pub loop-k-init : goal.loop-k-init
loop-k-init c = search (loops, rules)

pub returns : goal.returns
returns c = search (loops, rules)
