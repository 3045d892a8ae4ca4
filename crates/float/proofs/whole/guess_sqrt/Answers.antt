-- `float::whole::guess_sqrt` meets its contract: its pattern is a number's. Assumes nothing.
use Rattle.std.proofs.Common.{arith}
use lib.Ieee.{binary64}
use Rattle.floatlaws.specs.Bits.{real-pattern}
use Rattle.float.proofs.whole.guess_sqrt.Goals as goal

pub float_from_bits-x : goal.float_from_bits-x
float_from_bits-x c = real-pattern binary64 _ (omega arith)
