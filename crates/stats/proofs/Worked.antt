-- Document 01's worked values of the noise record, computed by antt. Assumes nothing.
use mathlib.Core.Path.{◌≡◌, refl}
use Prim.Native.Nat.{ℕ}
use lib.Ieee.{neg, add, sub, mul, div, lt, le, eq, is_nan, round}
use Rattle.float.specs.Select.{max, clamp}
use Rattle.color.specs.Color.{whole, fraction}
use Rattle.stats.specs.declared.ChannelStats.{ChannelStats}
use Rattle.stats.specs.Noise.{between, sigma_ab_at, luma_llr}

abbrev noise : ℕ → ℕ → ℕ → ℕ → ℕ → ChannelStats
noise l0 l1 sigma dark light =
    record {
      l0 = whole l0;
      l1 = whole l1;
      sigma_l = whole sigma;
      sigma_ab = whole sigma;
      sigma_ab_dark = whole dark;
      sigma_ab_light = whole light;
      samples = 0;
    }

-- "`sigma_ab_at` 50 with l0 0, l1 100, levels (2,4) is 3"
pub halfway : sigma_ab_at (noise 0 100 6 2 4) (whole 50) ≡ whole 3
unfolding sigma_ab_at between clamp max add sub mul div lt le eq is_nan fraction round
halfway = refl

-- "`luma_llr` with 20, 80, sigma 6 at 50, 44, 20 is 0, 10, 20"
pub undecided : luma_llr (noise 20 80 6 0 0) (whole 50) ≡ whole 0
unfolding luma_llr clamp add sub mul div neg lt fraction round
undecided = refl

pub darker : luma_llr (noise 20 80 6 0 0) (whole 44) ≡ whole 10
unfolding luma_llr clamp add sub mul div neg lt fraction round
darker = refl

pub dark : luma_llr (noise 20 80 6 0 0) (whole 20) ≡ whole 20
unfolding luma_llr clamp add sub mul div neg lt fraction round
dark = refl
