-- `near::search::Search::pass` meets its contract: after k turns the first k are sorted, where the steps are of 1.
-- Assumes nothing.
use Prim.Native.Nat.{◌-◌, ◌≤◌}
use Rattle.near.specs.Seen.{before}
use Rattle.near.specs.Order.{Passed}
use Rattle.near.proofs.search.Search.pass.Given as goal

abbrev pub invariant-loop-k : goal.invariant-loop-k
invariant-loop-k l = (l.k ≤ l.m) × Passed (before l.self) l.self.n l.gap l.k l.m l.initial.out l.out

abbrev pub decreases-loop-k : goal.decreases-loop-k
decreases-loop-k l = l.m - l.k
