-- `refine::Scale::refine_one` meets its contract: the same tests. Assumes nothing.
use mathlib.Core.Bool.{Bool, true, false}
use mathlib.Core.List.{List}
use mathlib.Core.Logic.{◌⊎◌, inl, inr}
use mathlib.Core.Path.{◌≡◌}
use Prim.Native.Nat.{ℕ, ◌≤◌, ◌<◌}
use borrow.Author.Tests.{lt-ltb, le-ltb}
use lib.Ieee.{Float}
use Rattle.color.specs.Color.{luminance}
use Rattle.color.specs.declared.Linear.{Linear}
use Rattle.std.specs.Prelude.{Option}
use Rattle.local.specs.declared.LocalFit.{LocalFit}
use Rattle.local.specs.Local.{local_fit}
use Rattle.refine.specs.Refine.{sure, add_fit, refine_one}
use Rattle.refine.specs.declared.Levels.{Levels}
use Rattle.local.specs.declared.Window.{Window}
use Rattle.stats.specs.declared.ChannelStats.{ChannelStats}
use Rattle.refine.proofs.Scale.refine_one.Goals as goal

module _ (noise : ChannelStats) (palette : List Float) (hues : ℕ) (lv : Levels) (c : Linear) (w : Window) (score : Float) (t : Bool) (e : t ≡ sure score) where
  kept : t ≡ true → score ≡ refine_one noise palette hues lv c w score
  unfolding refine_one
  kept h = rw (← e, h)

  few : t ≡ false → w.count < 12 → score ≡ refine_one noise palette hues lv c w score
  unfolding refine_one
  few h l = rw (← e, h, lt-ltb w.count 12 l)

  by : (t ≡ true) ⊎ ((t ≡ false) × (w.count < 12)) → score ≡ refine_one noise palette hues lv c w score
  by (inl h) = kept h
  by (inr h) = few h.0 h.1

  fitted : (y : Float) (f : Option LocalFit) (r : Float) → t ≡ false → 12 ≤ w.count → y ≡ luminance c → f ≡ local_fit w y lv.gap → r ≡ add_fit noise palette hues lv c score f
      → r ≡ refine_one noise palette hues lv c w score
  unfolding refine_one
  fitted y f r h l ey ef er = rw (← e, h, le-ltb w.count 12 l, ← ey, ← ef) er

pub returns-then-sure : goal.returns-then-sure
returns-then-sure c = by _ _ _ _ _ _ _ _ c.sure.ensures c.then-sure.either

pub returns : goal.returns
returns c = search (fitted)
