-- The code's 16 is the definitions'. Assumes nothing.
use mathlib.Core.Path.{◌≡◌, refl}
use lib.Ieee.{binary32, of_bits, of_int, round}
use lib.IntN.{pos}

pub sixteen : of_bits binary32 0x4180_0000 ≡ of_int binary32 (pos 16)
unfolding of_bits of_int round
sixteen = refl

pub ruleset literals = (sixteen)
