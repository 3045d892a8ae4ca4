-- `Meter::weighted_lumas` meets its contract: what is left from the block's first module on gives the same, and a block makes the turns of its modules. Assumes nothing.
use Rattle.std.proofs.Common.{rules}
use Rattle.loops.proofs.Laws.{loops}
use Rattle.scores.proofs.Blocks.{block_on}
use Rattle.scores.proofs.samples.Meter.weighted_lumas.Goals as goal

pub loop-from-preserved : goal.loop-from-preserved
loop-from-preserved c = block_on _ c.loop-from.invariant c.luma_block.ensures (search rules) (search rules)

pub returns : goal.returns
returns c = search (loops, rules)
