-- `Channel::palette_sigmas` meets its contract: the noise of each colour stands at its place. Assumes nothing.
use mathlib.Core.Path.{◌≡◌}
use mathlib.Core.List.{List, ◌++◌}
use Prim.Native.Nat.{ℕ, ◌*◌, ◌≤◌, ◌<◌}
use native.Mathlib.Omega.{arith}
use lib.ListN.{length, get_or, take, drop}
use lib.Seq.{length-take-le}
use lib.Ieee.{Float, nan}
use Rattle.color.specs.Palette.{palette_lab}
use Rattle.stats.specs.declared.ChannelStats.{ChannelStats}
use Rattle.stats.specs.Noise.{sigma_ab_at, put_sigma, palette_sigmas}
use Rattle.lists.proofs.Front.{front_replaced}
use Rattle.stats.proofs.Channel.palette_sigmas.Goals as goal

all_written : (n : ChannelStats) (palette : List Float) (hues i : ℕ) (sigmas s : List Float) →
    2 * hues ≤ length sigmas → length s ≡ length (take (2 * hues) sigmas) → length (take (2 * hues) sigmas) ≤ i →
    ((j : ℕ) → j < i → get_or s j nan ≡ sigma_ab_at n (palette_lab palette hues j).l) → s ++ drop (2 * hues) sigmas ≡ palette_sigmas n palette hues sigmas
unfolding put_sigma
all_written n palette hues i sigmas s l long past done =
    front_replaced nan (2 * hues) (λ j v. sigma_ab_at n (palette_lab palette hues j).l) sigmas s l long (λ j q. done j (let p = length-take-le (2 * hues) sigmas l in omega arith))

pub returns : goal.returns
returns c = all_written _ _ _ _ _ _ c.requires c.loop-i.auto.sigma-items c.loop-i-test.false c.loop-i.invariant
