-- `illum::in_scale` meets its contract: its four tests.
-- Assumes nothing.
use lib.Ieee.{of_bits}
use Rattle.illum.specs.Reach.{in_scale}
use Rattle.illum.proofs.in_scale.Goals as goal

pub returns : goal.returns
unfolding in_scale of_bits
returns c = cc
