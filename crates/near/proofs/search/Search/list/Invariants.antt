-- `near::search::Search::list` meets its contract: after i turns those below i are listed.
-- Assumes nothing.
use Prim.Native.Nat.{◌≤◌}
use Rattle.near.specs.Near.{Collected}
use Rattle.near.specs.Seen.{chosen}
use Rattle.near.proofs.search.Search.list.Given as goal

abbrev pub invariant-loop-i : goal.invariant-loop-i
invariant-loop-i l = (l.i ≤ l.self.n) × Collected (chosen l.self) l.i l.m l.initial.out l.out
