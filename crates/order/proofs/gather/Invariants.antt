-- `order::gather` meets its contract: no more places are written than values were looked at, and each is one of them. Assumes nothing.
use Prim.Native.Nat.{ℕ, ◌<◌, ◌≤◌}
use lib.ListN.{get_or}
use Rattle.order.proofs.gather.Given as goal

abbrev pub invariant-loop-i : goal.invariant-loop-i
invariant-loop-i l = (l.n ≤ l.i) × ((j : ℕ) → j < l.n → get_or l.at j 0 < l.i)
