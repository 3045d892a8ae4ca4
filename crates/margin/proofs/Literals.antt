-- Each literal of the code is the number of the definitions, rounded once: antt computes both. Assumes nothing.
use mathlib.Core.Path.{◌≡◌, refl}
use lib.Ieee.{binary32, of_bits, round}
use Rattle.color.specs.Color.{fraction}
use Rattle.color.proofs.Numbers.{n2, n4}

pub n9 : of_bits binary32 0x4110_0000 ≡ fraction 9 1
unfolding of_bits round fraction
n9 = refl

pub n13 : of_bits binary32 0x4150_0000 ≡ fraction 13 1
unfolding of_bits round fraction
n13 = refl

pub n256 : of_bits binary32 0x4380_0000 ≡ fraction 256 1
unfolding of_bits round fraction
n256 = refl

pub n1000 : of_bits binary32 0x447a_0000 ≡ fraction 1000 1
unfolding of_bits round fraction
n1000 = refl

-- those of this crate's functions
pub ruleset literals = (n2, n4, n9, n13, n256, n1000)
