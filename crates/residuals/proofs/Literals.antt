-- Each literal of the code is the number of the definitions. Assumes nothing.
use mathlib.Core.Path.{◌≡◌, refl}
use lib.IntN.{pos}
use lib.Ieee.{binary32, of_bits, of_int, round}
use Rattle.equations.specs.Live.{live_mark, dropped_mark}
use Rattle.residuals.specs.Residual.{least_sigma}

pub zero : of_bits binary32 0 ≡ dropped_mark
unfolding of_bits
zero = refl

pub one : of_bits binary32 0x3f80_0000 ≡ live_mark
unfolding of_bits
one = refl

pub three : of_bits binary32 0x4040_0000 ≡ of_int binary32 (pos 3)
unfolding of_bits of_int round
three = refl

pub least : of_bits binary32 0x38d1_b717 ≡ least_sigma
unfolding of_bits round least_sigma
least = refl

pub ruleset literals = (zero, one, three, least)
