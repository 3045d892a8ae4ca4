-- `near::search::Search::sift` meets its contract: what is moved stands at j, and all others of the first k + 1 stay in order.
-- Assumes nothing.
use Rattle.near.specs.Seen.{before}
use Rattle.near.proofs.Sifting.{Going}
use Rattle.near.proofs.search.Search.sift.Given as goal

abbrev pub invariant-loop-j : goal.invariant-loop-j
invariant-loop-j l = Going (before l.self) l.self.n l.gap l.k l.initial.out l.out l.j

abbrev pub decreases-loop-j : goal.decreases-loop-j
decreases-loop-j l = l.j
