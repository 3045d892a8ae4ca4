-- `vectors::call::load` meets its contract: the places before this one are written. Assumes nothing.
use Rattle.std.proofs.Common.{◌≡◌, ℕ, ◌<◌, get_or}
use Rattle.vectors.proofs.call.load.Given as goal

abbrev pub invariant-loop-k : goal.invariant-loop-k
invariant-loop-k g l = (k : ℕ) (d : _) → k < l.k → get_or l.out k d ≡ g.T.Value.value_of (get_or l.row k 0)
