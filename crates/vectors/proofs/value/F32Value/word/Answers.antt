-- `F32Value::word` meets its contract: its definition writes a NaN by 7FC00000, and any other value by its pattern. Assumes nothing.
use Rattle.std.proofs.Common.{T, sym, subst, arith}
use lib.Ieee.{binary32}
use lib.Ieee.Bits.{to_bits-lt}
use Rattle.floatlaws.specs.Nan.{no_nan}
use Rattle.vectors.proofs.Nan.{word_32}
use Rattle.vectors.proofs.value.F32Value.word.Goals as goal

pub returns-then-self : goal.returns-then-self
returns-then-self c = search (word_32)

pub float_to_bits-self : goal.float_to_bits-self
float_to_bits-self c = search (no_nan)

pub from-requires : goal.from-requires
from-requires c = omega (arith, to_bits-lt binary32 c.args.self (subst T (sym c.well_formed.0.1) tt))
