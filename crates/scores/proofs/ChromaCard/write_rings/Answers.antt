-- `ChromaCard::write_rings` meets its contract: what is left from the block's first module on gives the same, and a block makes the turns of its modules. Assumes nothing.
use mathlib.Core.Path.{◌≡◌}
use Prim.Native.Nat.{ℕ, ◌+◌, ◌-◌, ◌*◌, ◌≤◌}
use native.Mathlib.Omega.{arith}
use Rattle.std.proofs.Common.{rules}
use Rattle.limits.specs.Chroma.{symbol_bits}
use Rattle.loops.proofs.Laws.{loops, done}
use Rattle.scores.proofs.Chroma.{part-long}
use Rattle.scores.proofs.Blocks.{block_on}
use Rattle.scores.proofs.ChromaCard.write_rings.Goals as goal

-- the entries of the ring modules below `to` have room among those of all
ring_long : (hues cells grid to m long lent : ℕ) → to ≤ m → long ≡ lent → (cells + (m - grid)) * symbol_bits hues ≤ lent → (cells + (to - grid)) * symbol_bits hues ≤ long
ring_long hues cells grid to m long lent h e l = part-long hues (cells + (to - grid)) (cells + (m - grid)) long lent l (omega arith) e

pub ring_block-requires : goal.ring_block-requires
ring_block-requires c = (search rules, search rules, search rules, search (ring_long, rules))

pub loop-from-preserved : goal.loop-from-preserved
loop-from-preserved c = (search rules, block_on _ c.loop-from.invariant.1 c.ring_block.ensures (search rules) (search rules))

pub loop-from-init : goal.loop-from-init
loop-from-init c = search (loops, rules)

pub returns : goal.returns
returns c = done c.loop-from.invariant.1 (search rules)
