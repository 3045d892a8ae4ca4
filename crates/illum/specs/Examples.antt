-- Worked examples: which gains are held, and at what. Assumes nothing.
use Rattle.std.specs.Prelude.{◌≡◌, true, false, pos, refl}
use Rattle.std.specs.Float.{nan, fin, binary64}
use Rattle.std.specs.Float.Ieee.{neg, lt, round}
use Rattle.float.specs.Select.{abs}
use Rattle.illum.specs.Surface.{least_gain, is_held, hold_gain}

-- "either zero gives +0.05"
zero : hold_gain (fin false 0 (pos 0)) ≡ least_gain
unfolding hold_gain is_held least_gain abs lt round
zero = refl

minus-zero : hold_gain (fin true 0 (pos 0)) ≡ least_gain
unfolding hold_gain is_held least_gain abs lt round
minus-zero = refl

-- -0.01 becomes -0.05
below : hold_gain (round binary64 true 1 100) ≡ neg least_gain
unfolding hold_gain is_held least_gain abs lt round
below = refl

-- 0.05 itself is not held, and a NaN is left
at_limit : is_held least_gain ≡ false
unfolding is_held least_gain abs lt round
at_limit = refl

not_a_number : hold_gain nan ≡ nan
unfolding hold_gain is_held abs lt
not_a_number = refl
