-- `Meter::write_distances` meets its contract: the distance of each Lab stands at its place. Assumes nothing.
use Rattle.observed.proofs.Held.{front_held}
use Rattle.scores.proofs.samples.Meter.write_distances.Goals as goal

pub returns : goal.returns
returns c = front_held _ _ _ _ _ _ c.requires.1 c.loop-j.auto.distance-items c.loop-j-test.false c.loop-j.invariant
