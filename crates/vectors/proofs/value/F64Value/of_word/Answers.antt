-- `F64Value::of_word` meets its contract: a NaN's pattern is one above the infinity's, the sign taken off, and is not handed on. Assumes nothing.
use Rattle.std.proofs.Common.{◌∙◌}
use lib.Ieee.{binary64}
use Rattle.vectors.proofs.Nan.{nan_pattern, no_nan-pattern, nan_64}
use Rattle.vectors.proofs.value.F64Value.of_word.Goals as goal

pub returns-then-word-gt9218868437227405312 : goal.returns-then-word-gt9218868437227405312
returns-then-word-gt9218868437227405312 c = nan_64 ∙ nan_pattern binary64 c.args.word c.if-word-gt9218868437227405312.true

pub float_from_bits-result : goal.float_from_bits-result
float_from_bits-result c = no_nan-pattern binary64 c.args.word c.if-word-gt9218868437227405312.false
