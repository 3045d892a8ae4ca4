-- `Channel::hue_log_likelihoods_of` meets its contract: the likelihood of each hue stands at its place. Assumes nothing.
use mathlib.Core.Path.{◌≡◌, ap, ◌∙◌}
use mathlib.Core.List.{List, ◌++◌}
use Prim.Native.Nat.{ℕ, ◌≤◌, ◌<◌}
use native.Mathlib.Omega.{arith}
use lib.ListN.{length, get_or, take, drop}
use lib.Seq.{length-take-le}
use lib.Ieee.{Float, nan}
use Rattle.color.specs.declared.Lab.{Lab}
use Rattle.stats.specs.declared.ChannelStats.{ChannelStats}
use Rattle.stats.specs.Noise.{denominator, hue_log_likelihood, put_likelihood, put_likelihoods, hue_log_likelihoods}
use Rattle.lists.proofs.Front.{front_replaced}
use Rattle.stats.proofs.Channel.hue_log_likelihoods_of.Goals as goal

all_written : (n : ChannelStats) (sample : Lab) (palette : List Float) (hues h : ℕ) (out s : List Float) (d : Float) →
    d ≡ denominator n sample → hues ≤ length out → length s ≡ length (take hues out) → length (take hues out) ≤ h →
    ((j : ℕ) → j < h → get_or s j nan ≡ hue_log_likelihood sample d palette j) → s ++ drop hues out ≡ hue_log_likelihoods n sample palette hues out
unfolding put_likelihood
all_written n sample palette hues h out s d e l long past done =
    front_replaced nan hues (λ j v. hue_log_likelihood sample d palette j) out s l long (λ j q. done j (let p = length-take-le hues out l in omega arith))
    ∙ ap (λ (x : Float). put_likelihoods sample x palette hues out) e

pub returns : goal.returns
returns c = all_written _ _ _ _ _ _ _ _ c.denominator-denom.ensures c.requires c.loop-h.auto.entry-items c.loop-h-test.false c.loop-h.invariant
