-- `illum::is_large` meets its contract: the two tests of the definition. Assumes nothing.
use Rattle.std.proofs.Common.{refl}
use lib.Ieee.{of_bits}
use Rattle.illum.proofs.is_large.Goals as goal

pub returns : goal.returns
unfolding of_bits
returns c = refl
