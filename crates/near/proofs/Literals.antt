-- The numbers of the code are those of the definitions. Assumes nothing.
use Rattle.std.proofs.Common.{◌≡◌, refl}
use lib.Ieee.{binary64, of_bits, round}
use Rattle.near.specs.Near.{half}

pub half_is : of_bits binary64 0x3fe0_0000_0000_0000 ≡ half
unfolding of_bits half round
half_is = refl
