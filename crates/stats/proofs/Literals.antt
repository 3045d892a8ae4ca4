-- Each literal of the code is the number of the definitions, rounded once: antt computes both. Assumes nothing.
use mathlib.Core.Path.{◌≡◌, refl}
use mathlib.Core.Bool.{false}
use Prim.Native.Nat.{◌^◌}
use lib.Ieee.{inf, binary32, of_bits, round}
use Rattle.color.specs.Color.{fraction}
use Rattle.color.proofs.Numbers.{n0, n1, n2, n3, n20, three_quarters}

pub n6 : of_bits binary32 0x40c0_0000 ≡ fraction 6 1
unfolding of_bits round fraction
n6 = refl

pub thousandth : of_bits binary32 0x3a83_126f ≡ fraction 1 1000
unfolding of_bits round fraction
thousandth = refl

pub most : of_bits binary32 0x5380_0000 ≡ fraction (2 ^ 40) 1
unfolding of_bits round fraction
most = refl

-- the infinity from which the smallest distance starts
pub infinite : of_bits binary32 0x7f80_0000 ≡ inf false
unfolding of_bits
infinite = refl

-- those of this crate's functions
pub ruleset literals = (n0, n1, n2, n3, n6, n20, three_quarters, thousandth, most)
