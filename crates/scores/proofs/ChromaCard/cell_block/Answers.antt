-- `ChromaCard::cell_block` meets its contract: the scores by a block's samples are those of its corrected colours, and the count is theirs. Assumes nothing.
use Rattle.std.proofs.Common.{rules}
use Rattle.scores.proofs.Blocks.{cell_scores, cells_sampled, cells_counted}
use Rattle.scores.proofs.ChromaCard.cell_block.Goals as goal

pub returns : goal.returns
returns c =
    let s = c.of.ensures in
    let seen = c.correct-after.ensures in (
      cell_scores _ _ _ _ _ _ _ _ _ _ _ (cells_sampled _ _ _ _ _ _ _ _ _ _ _ _ _ _ _ s.0 s.1 seen.0 (search rules)) s.1 _ _ (search rules) c.put_entries.ensures,
      cells_counted _ _ _ _ _ _ _ _ _ seen.1,
      search rules,
    )
