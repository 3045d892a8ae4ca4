-- `margin_at` meets its contract: the refusal, or what the core says at the setting's threshold. Assumes nothing.
use mathlib.Core.Path.{◌≡◌}
use mathlib.Core.Bool.{Bool}
use mathlib.Core.List.{List}
use Prim.Native.Nat.{ℕ}
use lib.Ieee.{Float}
use Rattle.answers.proofs.Answers.{turned_away, says-given}
use Rattle.stats.specs.declared.ChannelStats.{ChannelStats}
use Rattle.margin.specs.Margin.{in_margin}
use Rattle.stats.proofs.Passed.{past}
use Rattle.margin.proofs.margin_at.Goals as goal

-- what the check says at v is what it says at the setting's threshold, which is v
at_least : (n : ChannelStats) (palette : List Float) (hues : ℕ) (r : Bool) (v w : Float) → r ≡ in_margin v n palette hues → v ≡ w → r ≡ in_margin w n palette hues
at_least n palette hues r v w e f = rw f at e

pub invariant_of-channel : goal.invariant_of-channel
invariant_of-channel c = record { long = past _ _ _ c.in_ok-check.ensures }

pub returns-in_err-check : goal.returns-in_err-check
returns-in_err-check c = search (turned_away, c.in_err-check.ensures)

pub returns : goal.returns
returns c = search (at_least, says-given, c.in_ok-check.ensures)
