-- `ChromaCard::write_cells` meets its contract: what is left from the block's first cell on gives the same, of the scores and of the count, and a block makes the turns of its cells. Assumes nothing.
use Rattle.std.proofs.Common.{rules}
use Rattle.loops.proofs.Laws.{loops, done}
use Rattle.scores.proofs.Chroma.{part-long}
use Rattle.scores.proofs.Blocks.{block_on}
use Rattle.scores.proofs.ChromaCard.write_cells.Goals as goal

pub loop-from-init : goal.loop-from-init
loop-from-init c = (search (loops, rules), search rules, search (loops, rules))

pub cell_block-held-requires : goal.cell_block-held-requires
cell_block-held-requires c = (search rules, search rules, search rules, part-long _ _ _ _ _ c.requires (search rules) (search rules))

pub loop-from-preserved : goal.loop-from-preserved
loop-from-preserved c =
    let i = c.loop-from.invariant in
    let e = c.cell_block-held.ensures in
    (block_on _ i.0 e.0 (search rules) (search rules), search rules, block_on _ i.2 e.1 (search rules) (search rules))

pub returns : goal.returns
returns c =
    let i = c.loop-from.invariant in
    (done i.0 (search rules), done i.2 (search rules))
