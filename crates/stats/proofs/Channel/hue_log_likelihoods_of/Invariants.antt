-- `Channel::hue_log_likelihoods_of` meets its contract: the likelihood of each hue stands at its place. Assumes nothing.
use mathlib.Core.Path.{◌≡◌}
use Prim.Native.Nat.{ℕ, ◌<◌}
use lib.ListN.{get_or}
use lib.Ieee.{nan}
use Rattle.stats.specs.Noise.{hue_log_likelihood}
use Rattle.stats.proofs.Channel.hue_log_likelihoods_of.Given as goal

abbrev pub invariant-loop-h : goal.invariant-loop-h
invariant-loop-h l = (j : ℕ) → j < l.h → get_or l.entry-items j nan ≡ hue_log_likelihood l.sample l.denom l.self.palette.numbers.now j
