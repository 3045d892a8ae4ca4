-- `near::search::Search::nearest` meets its contract: after i turns the first three of those below i are listed.
-- Assumes nothing.
use Prim.Native.Nat.{◌≤◌}
use Rattle.near.specs.Near.{Leading}
use Rattle.near.specs.Seen.{before, chosen}
use Rattle.near.proofs.search.Search.nearest.Given as goal

abbrev pub invariant-loop-i : goal.invariant-loop-i
invariant-loop-i l = (l.i ≤ l.self.n) × Leading (before l.self) (chosen l.self) l.i l.m l.initial.out l.out
