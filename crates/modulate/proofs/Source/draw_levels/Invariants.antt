-- `modulate::Source::draw_levels` meets its contract: each level stands at its place. Assumes nothing.
use mathlib.Core.Path.{◌≡◌}
use Prim.Native.Nat.{ℕ, ◌<◌}
use lib.ListN.{get_or}
use Rattle.modulate.specs.Draw.{level_at}
use Rattle.modulate.proofs.Source.draw_levels.Given as goal

abbrev pub invariant-loop-i : goal.invariant-loop-i
invariant-loop-i l = (j : ℕ) → j < l.i → get_or l.level-items j 0 ≡ level_at l.self.bits.now l.self.xs.now l.self.ys.now l.self.layout.grid l.self.mask j
