-- `modulate::symbol_at` meets its contract: what is left of the bits gives the symbol; i bits make a number below 2 ^ i. Assumes nothing.
use Prim.Native.Nat.{◌^◌, ◌<◌}
use Rattle.loops.proofs.Laws.{Left}
use Rattle.modulate.specs.Draw.{push_bit, symbol_at}
use Rattle.modulate.proofs.symbol_at.Given as goal

abbrev pub invariant-loop-bit : goal.invariant-loop-bit
invariant-loop-bit l = (l.symbol < 2 ^ l.bit-index) × Left (push_bit l.bits l.from) l.count l.bit-index l.symbol (symbol_at l.bits l.from l.count)
