-- `plain_lumas` meets its contract: the score of each module stands at its place. Assumes nothing.
use mathlib.Core.Path.{◌≡◌}
use mathlib.Core.List.{List, ◌++◌}
use Prim.Native.Nat.{ℕ, ◌≤◌, ◌<◌}
use native.Mathlib.Omega.{arith}
use lib.ListN.{length, get_or, take, drop}
use lib.Seq.{length-take-le}
use lib.Ieee.{Float, nan}
use Rattle.color.specs.Color.{linear_to_lab}
use Rattle.color.specs.Palette.{linear_at}
use Rattle.stats.specs.declared.ChannelStats.{ChannelStats}
use Rattle.stats.specs.Noise.{luma_llr}
use Rattle.lists.proofs.Front.{front_replaced}
use Rattle.scores.specs.Score.{plain_luma, plain_lumas}
use Rattle.scores.proofs.plain_lumas.Goals as goal

all_written : (noise : ChannelStats) (colours : List Float) (n i : ℕ) (luma s : List Float) → n ≤ length luma → length s ≡ length (take n luma) → length (take n luma) ≤ i →
    ((j : ℕ) → j < i → get_or s j nan ≡ luma_llr noise (linear_to_lab (linear_at colours j)).l) → s ++ drop n luma ≡ plain_lumas noise (linear_at colours) n luma
unfolding plain_luma
all_written noise colours n i luma s l long past done =
    front_replaced nan n (λ j v. luma_llr noise (linear_to_lab (linear_at colours j)).l) luma s l long (λ j q. done j (let p = length-take-le n luma l in omega arith))

pub returns : goal.returns
returns c = all_written _ _ _ _ _ _ c.requires c.loop-i.auto.score-items c.loop-i-test.false c.loop-i.invariant
