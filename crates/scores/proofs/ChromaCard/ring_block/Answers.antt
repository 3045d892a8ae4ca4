-- `ChromaCard::ring_block` meets its contract: the scores by a block's samples are those of its colours, past the cells' entries. Assumes nothing.
use Rattle.std.proofs.Common.{rules}
use Rattle.scores.proofs.Blocks.{ring_scores}
use Rattle.scores.proofs.ChromaCard.ring_block.Goals as goal

pub returns : goal.returns
returns c = ring_scores _ _ _ _ _ _ _ _ _ _ _ c.of.ensures.0 c.of.ensures.1 _ _ _ _ (search rules) (search rules) c.put_entries.ensures
