-- `promises::reliability_range` meets its contract: the theorem of `stats`. Assumes nothing.
use Rattle.stats.proofs.Reliable.{reliability_in}
use Rattle.promises.proofs.reliability_range.Goals as goal

pub returns : goal.returns
returns c = reliability_in
