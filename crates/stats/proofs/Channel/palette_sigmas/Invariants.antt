-- `Channel::palette_sigmas` meets its contract: the noise of each colour stands at its place. Assumes nothing.
use mathlib.Core.Path.{◌≡◌}
use Prim.Native.Nat.{ℕ, ◌<◌}
use lib.ListN.{get_or}
use lib.Ieee.{nan}
use Rattle.color.specs.Palette.{palette_lab}
use Rattle.stats.specs.Noise.{sigma_ab_at}
use Rattle.stats.proofs.Channel.palette_sigmas.Given as goal

abbrev pub invariant-loop-i : goal.invariant-loop-i
invariant-loop-i l = (j : ℕ) → j < l.i → get_or l.sigma-items j nan ≡ sigma_ab_at l.self.noise (palette_lab l.self.palette.numbers.now l.self.palette.hues j).l
