-- `modulate::Source::draw_hues` meets its contract: each hue stands at its place. Assumes nothing.
use mathlib.Core.Path.{◌≡◌}
use Prim.Native.Nat.{ℕ, ◌<◌}
use lib.ListN.{length, get_or}
use Rattle.modulate.specs.Draw.{hue_at}
use Rattle.modulate.proofs.Source.draw_hues.Given as goal

abbrev pub invariant-loop-j : goal.invariant-loop-j
invariant-loop-j l = (i : ℕ) → i < l.j → get_or l.hue-items i 0 ≡ hue_at l.self.bits.now l.self.layout.hues (length l.self.xs.now) l.self.cxs.now l.self.cys.now i
