-- `Channel::nearest_with` meets its contract: what is left from i on gives the same, since `sigma` gives the noise at each colour's lightness. Assumes nothing.
use mathlib.Core.Path.{◌≡◌}
use mathlib.Core.List.{List}
use Prim.Native.Nat.{ℕ}
use lib.Ieee.{Float}
use borrow.Author.Rules.{rules}
use Rattle.loops.proofs.Laws.{loops, begin}
use Rattle.float.specs.Select.{min}
use Rattle.color.specs.declared.Lab.{Lab}
use Rattle.color.specs.Palette.{palette_lab}
use Rattle.stats.specs.declared.ChannelStats.{ChannelStats}
use Rattle.stats.specs.Noise.{distance, closer}
use Rattle.stats.proofs.Literals.{infinite}
use Rattle.stats.proofs.Channel.nearest_with.Goals as goal

-- the colour that the turn looks at is colour i
turned : (n : ChannelStats) (sample : Lab) (palette : List Float) (hues i : ℕ) (c : Lab) (d best r : Float) →
    c ≡ palette_lab palette hues i → d ≡ distance n sample c → r ≡ min best d → r ≡ closer n sample palette hues i best
unfolding closer
turned n sample palette hues i c d best r e f g = cc

pub loop-i-init : goal.loop-i-init
loop-i-init g c = (c.colours-i-end.ensures, rw infinite begin)

pub loop-i-preserved : goal.loop-i-preserved
loop-i-preserved g c = search (turned, loops, rules)

pub returns : goal.returns
returns g c = search (loops, rules)
