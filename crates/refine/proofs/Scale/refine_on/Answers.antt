-- `refine::Scale::refine_on` meets its contract: a score that is passed over needs no window. Assumes nothing.
use mathlib.Core.Bool.{Bool, true}
use mathlib.Core.List.{List}
use mathlib.Core.Path.{◌≡◌}
use Prim.Native.Nat.{ℕ}
use lib.Ieee.{Float}
use Rattle.color.specs.declared.Linear.{Linear}
use Rattle.refine.specs.Refine.{sure, refine_one}
use Rattle.refine.specs.declared.Levels.{Levels}
use Rattle.local.specs.declared.Window.{Window}
use Rattle.stats.specs.declared.ChannelStats.{ChannelStats}
use Rattle.refine.proofs.Scale.refine_on.Goals as goal

module _ (noise : ChannelStats) (palette : List Float) (hues : ℕ) (lv : Levels) (c : Linear) (score : Float) where
  kept : (w : Window) (t : Bool) → t ≡ sure score → t ≡ true → score ≡ refine_one noise palette hues lv c w score
  unfolding refine_one
  kept w t e h = rw (← e, h)

  seen : (w v : Window) (r : Float) → r ≡ refine_one noise palette hues lv c w score → w ≡ v → r ≡ refine_one noise palette hues lv c v score
  seen w v r e h = rw (← h) e

pub returns-then-sure : goal.returns-then-sure
returns-then-sure c = search (kept)

pub returns : goal.returns
returns c = search (seen)
