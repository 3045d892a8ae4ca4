-- `math::back_substitute` meets its contract: what is left of the rows above gives the same unknowns. Assumes nothing.
use Rattle.loops.proofs.Laws.{begin-down, turn-down, done-down}
use Rattle.math.specs.Gauss.{unknown}
use Rattle.math.proofs.back_substitute.Goals as goal

pub loop-r-init : goal.loop-r-init
loop-r-init c = begin-down

pub loop-r-preserved : goal.loop-r-preserved
unfolding unknown
loop-r-preserved c = turn-down c.loop-r.invariant c.loop-r-test.true (cc)

pub returns : goal.returns
returns c = done-down c.loop-r.invariant c.loop-r-test.false
