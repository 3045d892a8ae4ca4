-- `order::copy` meets its contract: before turn i the first i values are written. Assumes nothing.
use Rattle.std.proofs.Common.{◌≡◌, ℕ, ◌<◌, length, get_or}
use lib.Ieee.{nan}
use Rattle.order.proofs.copy.Given as goal

abbrev pub invariant-loop-i : goal.invariant-loop-i
invariant-loop-i l = record { long : length l.part ≡ length l.values; written : (k : ℕ) → k < l.i → get_or l.part k nan ≡ get_or l.values k nan }
