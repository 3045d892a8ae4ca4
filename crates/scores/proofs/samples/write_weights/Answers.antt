-- `write_weights` meets its contract: the weight of each distance stands at its place. Assumes nothing.
use Rattle.observed.proofs.Held.{front_held}
use Rattle.scores.proofs.samples.write_weights.Goals as goal

pub returns : goal.returns
returns c = front_held _ _ _ _ _ _ c.requires.1 c.loop-j.auto.weight-items c.loop-j-test.false c.loop-j.invariant
