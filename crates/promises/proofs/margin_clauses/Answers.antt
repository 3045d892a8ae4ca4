-- `promises::margin_clauses` meets its contract: the theorem of `stats`. Assumes nothing.
use mathlib.Core.List.{List}
use Prim.Native.Nat.{ℕ}
use Rattle.stats.specs.declared.ChannelStats.{ChannelStats}
use Rattle.margin.proofs.Clear as clear
use Rattle.promises.specs.Noise.{Apart}
use lib.Ieee.{Float}
use Rattle.promises.proofs.margin_clauses.Goals as goal

apart : (n : ChannelStats) (palette : List Float) (hues i own : ℕ) → clear.Apart n palette hues i own → Apart n palette hues i own
apart n palette hues i own p = record { at_own = p.at_own; off-others = p.off-others }

pub returns : goal.returns
returns c =
    λ threshold n palette hues e. let p = clear.clear threshold n palette hues e in
    record {
      rising = p.rising;
      l0_small = p.l0_small;
      l1_small = p.l1_small;
      colour-small = p.colour-small;
      sigmas-small = p.sigmas-small;
      dark = p.dark;
      light = p.light;
      dark-apart = λ o h l. apart n palette hues h h (p.dark-apart o h l);
      light-apart = λ o h l. apart n palette hues _ h (p.light-apart o h l);
    }
