-- `F64Value::word` meets its contract: its definition writes a NaN by 7FF8000000000000, and any other value by its pattern. Assumes nothing.
use Rattle.floatlaws.specs.Nan.{no_nan}
use Rattle.vectors.proofs.Nan.{word_64}
use Rattle.vectors.proofs.value.F64Value.word.Goals as goal

pub returns-then-self : goal.returns-then-self
returns-then-self c = search (word_64)

pub float_to_bits-result : goal.float_to_bits-result
float_to_bits-result c = search (no_nan)
