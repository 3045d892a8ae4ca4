-- `refine::Spot::window` meets its contract: what is left of the seven rows takes the samples to the window; after r rows there are at most 7 r. Assumes nothing.
use Prim.Native.Nat.{◌-◌, ◌*◌, ◌≤◌}
use Rattle.loops.proofs.Laws.{Left}
use Rattle.refine.specs.Window.{sample_at, window_of}
use Rattle.refine.proofs.Spot.window.Given as goal

abbrev pub invariant-loop-r : goal.invariant-loop-r
invariant-loop-r l =
    (l.w.count ≤ 7 * l.r) × (l.r ≤ 7) × Left (sample_at l.self.side l.self.grid.now l.self.home) 49 (7 * l.r) l.w (window_of l.self.side l.self.grid.now l.self.home)

abbrev pub decreases-loop-r : goal.decreases-loop-r
decreases-loop-r l = 7 - l.r
