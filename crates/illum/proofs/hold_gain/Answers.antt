-- `illum::hold_gain` meets its contract, by its two tests.
-- Assumes nothing.
use Rattle.std.proofs.Common.{◌≡◌, Bool, true, false}
use lib.Ieee.{Float, lt, neg, of_bits}
use Rattle.illum.specs.Surface.{zero64, least_gain, is_held, hold_gain}
use Rattle.illum.proofs.Terms.{literal-least}
use Rattle.illum.proofs.hold_gain.Goals as goal

module _ (g x : Float) (r : Bool) (e : r ≡ is_held g) (ex : x ≡ least_gain) where
  below : r ≡ true → lt g zero64 ≡ true → neg x ≡ hold_gain g
  unfolding hold_gain
  below h t = cc

  above : r ≡ true → lt g zero64 ≡ false → x ≡ hold_gain g
  unfolding hold_gain
  above h t = cc

free : (g : Float) (r : Bool) → r ≡ is_held g → r ≡ false → g ≡ hold_gain g
unfolding hold_gain
free g r e h = cc

pub returns-then-g : goal.returns-then-g
unfolding of_bits
returns-then-g c = search (below, literal-least)

pub returns-then-is_held : goal.returns-then-is_held
unfolding of_bits
returns-then-is_held c = search (above, literal-least)

pub returns : goal.returns
returns c = search (free)
