-- `vectors::call::fill` meets its contract: the places before this one hold v. Assumes nothing.
use Rattle.std.proofs.Common.{◌≡◌, ℕ, ◌<◌, get_or}
use Rattle.vectors.proofs.call.fill.Given as goal

abbrev pub invariant-loop-x : goal.invariant-loop-x
invariant-loop-x g l = (k : ℕ) (d : _) → k < l.x-index → get_or l.front k d ≡ l.v
