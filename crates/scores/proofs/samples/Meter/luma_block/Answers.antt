-- `Meter::luma_block` meets its contract: the scores by a block's samples are those of its colours. Assumes nothing.
use Rattle.scores.proofs.Blocks.{luma_scores}
use Rattle.scores.proofs.samples.Meter.luma_block.Goals as goal

pub returns : goal.returns
returns c = luma_scores _ _ _ _ _ _ _ _ _ _ _ c.of.ensures.0 c.of.ensures.1 c.requires.0 c.put_lumas.ensures
