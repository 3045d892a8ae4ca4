-- `refine::Coloured::place_all` meets its contract: what is left of the modules takes the grid to the answer. Assumes nothing.
use mathlib.Core.Path.{◌≡◌}
use Prim.Native.Nat.{◌-◌}
use lib.ListN.{length}
use Rattle.loops.proofs.Laws.{Left}
use Rattle.refine.specs.Refine.{place_at, placed}
use Rattle.refine.proofs.Coloured.place_all.Given as goal

abbrev pub invariant-loop-i : goal.invariant-loop-i
invariant-loop-i l =
    (l.i-end ≡ length l.self.modules.xs.now) × (length l.out ≡ length l.initial.out) × Left (place_at l.self.modules.side l.self.modules.xs.now l.self.modules.ys.now l.self.colours.now) (length l.self.modules.xs.now) l.i l.out (placed l.self.modules.side l.self.modules.xs.now l.self.modules.ys.now l.self.colours.now l.initial.out)

abbrev pub decreases-loop-i : goal.decreases-loop-i
decreases-loop-i l = l.i-end - l.i
