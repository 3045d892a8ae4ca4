-- `F32Value::of_word` meets its contract: a NaN's pattern is one above the infinity's, the sign taken off, and is not handed on. Assumes nothing.
use Rattle.std.proofs.Common.{◌%◌, ◌∙◌}
use lib.Ieee.{binary32}
use Rattle.vectors.proofs.Nan.{nan_pattern, no_nan-pattern, nan_32}
use Rattle.vectors.proofs.value.F32Value.of_word.Goals as goal

pub returns-then-bits-gt2139095040 : goal.returns-then-bits-gt2139095040
returns-then-bits-gt2139095040 c = nan_32 ∙ nan_pattern binary32 (c.args.word % 4294967296) c.if-bits-gt2139095040.true

pub float_from_bits-result : goal.float_from_bits-result
float_from_bits-result c = no_nan-pattern binary32 (c.args.word % 4294967296) c.if-bits-gt2139095040.false
