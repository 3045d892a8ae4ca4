-- `refine::Scale::add_fit` meets its contract: the fit by its two cases. Assumes nothing.
use mathlib.Core.Bool.{Bool, true, false, not}
use mathlib.Core.List.{List}
use mathlib.Core.Path.{◌≡◌}
use Prim.Native.Nat.{ℕ}
use borrow.Author.Tests.{not-true, not-false}
use lib.Ieee.{Float}
use Rattle.std.specs.Prelude.{Option, Some, None}
use Rattle.color.specs.Color.{linear_to_lab}
use Rattle.color.specs.declared.Lab.{Lab}
use Rattle.color.specs.declared.Linear.{Linear}
use Rattle.limits.specs.Chroma.{weighted}
use Rattle.refine.specs.Refine.{deglared, weighed_amount, added, add_fit}
use Rattle.refine.specs.declared.Levels.{Levels}
use Rattle.local.specs.declared.LocalFit.{LocalFit}
use Rattle.stats.specs.Arithmetic.{◌⊗◌}
use Rattle.stats.specs.Noise.{reliability}
use Rattle.stats.specs.declared.ChannelStats.{ChannelStats}
use Rattle.refine.proofs.Scale.add_fit.Goals as goal

module _ (noise : ChannelStats) (palette : List Float) (hues : ℕ) (lv : Levels) (c : Linear) (score : Float) (o : Option LocalFit) where
  left : o ≡ None → score ≡ add_fit noise palette hues lv c score o
  unfolding add_fit
  left e = rw e

  module _ (f : LocalFit) (e : o ≡ Some f) (t : Bool) (h : t ≡ weighted hues) (r : Float) where
    plain : not t ≡ true → r ≡ added score f.amount → r ≡ add_fit noise palette hues lv c score o
    unfolding add_fit weighed_amount
    plain d g = rw (e, ← h, not-true t d) g

    weighed : (d : Linear) (l : Lab) (v : Float) → not t ≡ false → d ≡ deglared c f.base f.step lv → l ≡ linear_to_lab d → v ≡ reliability noise l palette hues
        → r ≡ added score (f.amount ⊗ v) → r ≡ add_fit noise palette hues lv c score o
    unfolding add_fit weighed_amount
    weighed d l v o ed el ev g = rw (e, ← h, not-false t o, ← ed, ← el, ← ev) g

pub returns-in_default : goal.returns-in_default
returns-in_default c = search (left)

pub returns-then-not-weighted : goal.returns-then-not-weighted
returns-then-not-weighted c = search (plain)

pub returns : goal.returns
returns c = search (weighed)
