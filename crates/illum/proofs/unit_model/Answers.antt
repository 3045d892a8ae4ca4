-- `illum::unit_model` meets its contract: the same numbers, and a side up to 1,024 is an f32.
-- Assumes nothing.
use Rattle.std.proofs.Common.{le→leb, refl, arith}
use lib.Ieee.{of_bits, in_float}
use Rattle.illum.specs.Correct.{unit_model}
use Rattle.illum.proofs.unit_model.Goals as goal

pub int_to_float-result : goal.int_to_float-result
unfolding in_float
int_to_float-result c = le→leb c.args.side 16777216 (omega arith)

pub returns : goal.returns
unfolding unit_model of_bits
returns c = refl
