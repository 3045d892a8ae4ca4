-- `live::live_count` meets its contract: what is left from a mark on counts the rest; no more are live than were passed. Assumes nothing.
use Prim.Native.Nat.{◌≤◌}
use lib.ListN.{length}
use Rattle.loops.specs.Loops.{raise}
use Rattle.loops.proofs.Laws.{Left}
use Rattle.equations.specs.Live.{is_live, live_count}
use Rattle.equations.proofs.live.live_count.Given as goal

abbrev pub invariant-loop-mark : goal.invariant-loop-mark
invariant-loop-mark l = (l.k ≤ l.mark-index) × Left (raise (is_live l.live)) (length l.live) l.mark-index l.k (live_count l.live (length l.live))
