-- `refine::Spot::row_samples` meets its contract: a row outside the grid has no sample; else what is left of its columns takes the samples to the answer. Assumes nothing.
use mathlib.Core.Bool.{false}
use mathlib.Core.Path.{◌≡◌}
use Prim.Native.Nat.{◌+◌, ◌-◌, ◌*◌, ◌≤◌}
use Rattle.loops.proofs.Laws.{Left}
use Rattle.refine.specs.Window.{row3, beyond, sample_at, row_at}
use Rattle.refine.proofs.Spot.row_samples.Given as goal

abbrev pub invariant-loop-c : goal.invariant-loop-c
invariant-loop-c l =
    (l.v ≡ row3 l.self.side l.self.home (7 * l.r)) × (beyond l.self.side l.v ≡ false) × (l.w.count ≤ 7 * l.r + l.c) × (l.c ≤ 7) × Left (sample_at l.self.side l.self.grid.now l.self.home) (7 * l.r + 7) (7 * l.r + l.c) l.w (row_at l.self.side l.self.grid.now l.self.home l.r l.initial.w)

abbrev pub decreases-loop-c : goal.decreases-loop-c
decreases-loop-c l = 7 - l.c
