-- `near::wild_radius` meets its contract: the two tests of the definition. Assumes nothing.
use Rattle.std.proofs.Common.{refl}
use lib.Ieee.{of_bits, of_int, round}
use Rattle.near.specs.Near.{wild_radius}
use Rattle.near.proofs.wild_radius.Goals as goal

pub returns : goal.returns
unfolding wild_radius of_bits of_int round
returns c = refl
