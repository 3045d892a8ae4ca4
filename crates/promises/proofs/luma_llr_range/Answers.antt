-- `promises::luma_llr_range` meets its contract: the theorem of `stats`, of a record whose figures stand in their ranges. Assumes nothing.
use Rattle.stats.proofs.Range.{good, luma_llr_in}
use Rattle.promises.proofs.Held.{held}
use Rattle.promises.proofs.luma_llr_range.Goals as goal

pub returns : goal.returns
returns c = λ n h a b l p. luma_llr_in n (good n (held n h) a b) l p
