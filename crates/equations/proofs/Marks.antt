-- The code's 1 is the mark of a live reference. Assumes nothing.
use mathlib.Core.Path.{◌≡◌, refl}
use lib.Ieee.{binary32, of_bits}
use Rattle.equations.specs.Live.{live_mark}

pub one : of_bits binary32 0x3f80_0000 ≡ live_mark
unfolding of_bits
one = refl

pub ruleset literals = (one)
