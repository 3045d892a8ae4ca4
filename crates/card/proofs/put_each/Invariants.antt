-- `card::put_each` meets its contract: the places before this one are written. Assumes nothing.
use Rattle.std.proofs.Common.{◌≡◌, ℕ, ◌<◌, length, get_or}
use Rattle.card.proofs.put_each.Given as goal

abbrev pub invariant-loop-i : goal.invariant-loop-i
invariant-loop-i g l = (length l.out ≡ length l.initial.out) × ((k : ℕ) (d : _) → k < l.i → goal.F-post g l.number_at k (get_or l.out k d))
