-- `Channel::nearest_with` meets its contract: what is left from i on gives the same. Assumes nothing.
use mathlib.Core.Path.{◌≡◌}
use Prim.Native.Nat.{◌*◌, ◌-◌}
use Rattle.loops.proofs.Laws.{Left}
use Rattle.stats.specs.Noise.{closer, nearest}
use Rattle.stats.proofs.Channel.nearest_with.Given as goal

abbrev pub invariant-loop-i : goal.invariant-loop-i
invariant-loop-i g l =
    (l.i-end ≡ 2 * l.self.palette.hues) × Left (closer l.self.noise l.sample l.self.palette.numbers.now l.self.palette.hues) (2 * l.self.palette.hues) l.i l.best (nearest l.self.noise l.sample l.self.palette.numbers.now l.self.palette.hues)

abbrev pub decreases-loop-i : goal.decreases-loop-i
decreases-loop-i g l = l.i-end - l.i
