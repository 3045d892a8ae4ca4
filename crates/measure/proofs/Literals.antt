-- The code's 1.4826 is the number of the definition, rounded once: antt computes both. Assumes nothing.
use mathlib.Core.Path.{◌≡◌, refl}
use lib.Ieee.{binary32, of_bits, round}
use Rattle.order.specs.Deviation.{scale}

pub scaled : of_bits binary32 1069401558 ≡ scale
unfolding of_bits round scale
scaled = refl
