-- `math::subtract_row` meets its contract: what is left of the row gives the same matrix. Assumes nothing.
use Rattle.loops.proofs.Laws.{turn_to, done}
use Rattle.math.specs.Gauss.{subtract_at}
use Rattle.math.proofs.subtract_row.Goals as goal

pub loop-k-preserved : goal.loop-k-preserved
unfolding subtract_at
loop-k-preserved c = turn_to c.loop-k.invariant c.loop-k-test.true (cc)

pub returns : goal.returns
returns c = done c.loop-k.invariant c.loop-k-test.false
