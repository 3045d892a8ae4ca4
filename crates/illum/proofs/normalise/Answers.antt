-- `illum::normalise` meets its contract: the operations of the definition, in its order.
-- Assumes nothing.
use lib.Ieee.{of_bits}
use Rattle.illum.specs.Surface.{normalised}
use Rattle.illum.proofs.normalise.Goals as goal

pub returns : goal.returns
unfolding normalised of_bits
returns c = cc
