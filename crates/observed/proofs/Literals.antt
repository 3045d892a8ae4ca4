-- Each literal of the code is the number of the definitions, rounded once: antt computes both. Assumes nothing.
use mathlib.Core.Path.{◌≡◌, refl}
use lib.Ieee.{binary32, of_bits, round}
use Rattle.color.specs.Color.{fraction}

pub half : of_bits binary32 0x3f00_0000 ≡ fraction 1 2
unfolding of_bits round fraction
half = refl
