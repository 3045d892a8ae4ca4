-- `illum::no_model` meets its contract: the same zeros.
-- Assumes nothing.
use Rattle.std.proofs.Common.{refl}
use lib.Ieee.{of_bits}
use Rattle.illum.specs.Correct.{no_model}
use Rattle.illum.proofs.no_model.Goals as goal

pub returns : goal.returns
unfolding no_model of_bits
returns c = refl
