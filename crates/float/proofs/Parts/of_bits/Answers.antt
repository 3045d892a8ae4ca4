-- `float::Parts::of_bits` meets its contract: below 2 ^ 23 the pattern is the value, and above it the exponent's field counts. Assumes nothing.
use Rattle.float.proofs.Lead.{split-low, split-high}
use Rattle.float.proofs.Parts.of_bits.Goals as goal

pub returns-then-bits-lt8388608 : goal.returns-then-bits-lt8388608
returns-then-bits-lt8388608 c = split-low _ _ _ c.if-bits-lt8388608.true c.norm.ensures

pub returns-else-bits-lt8388608 : goal.returns-else-bits-lt8388608
returns-else-bits-lt8388608 c = split-high _ _ _ c.if-bits-lt8388608.false c.norm-else-bits-lt8388608.ensures
