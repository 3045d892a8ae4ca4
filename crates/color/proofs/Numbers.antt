-- Literals that the code of several crates has: each is the number of the definitions, rounded once: antt computes both. Assumes nothing.
use mathlib.Core.Path.{◌≡◌, refl}
use lib.Ieee.{binary32, of_bits, round}
use Rattle.color.specs.Color.{fraction}

pub n0 : of_bits binary32 0 ≡ fraction 0 1
unfolding of_bits round fraction
n0 = refl

pub n1 : of_bits binary32 0x3f80_0000 ≡ fraction 1 1
unfolding of_bits round fraction
n1 = refl

pub n2 : of_bits binary32 0x4000_0000 ≡ fraction 2 1
unfolding of_bits round fraction
n2 = refl

pub n3 : of_bits binary32 0x4040_0000 ≡ fraction 3 1
unfolding of_bits round fraction
n3 = refl

pub n4 : of_bits binary32 0x4080_0000 ≡ fraction 4 1
unfolding of_bits round fraction
n4 = refl

pub n12 : of_bits binary32 0x4140_0000 ≡ fraction 12 1
unfolding of_bits round fraction
n12 = refl

pub n20 : of_bits binary32 0x41a0_0000 ≡ fraction 20 1
unfolding of_bits round fraction
n20 = refl

pub three_quarters : of_bits binary32 0x3f40_0000 ≡ fraction 75 100
unfolding of_bits round fraction
three_quarters = refl
