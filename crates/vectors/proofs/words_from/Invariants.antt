-- `vectors::words_from` meets its contract: each word read leaves the rest of the run, and what is no word ends it. Assumes nothing.
use Rattle.std.proofs.Common.{◌≡◌, ◌-◌, length}
use Rattle.vectors.proofs.Rows.{LeftWords}
use Rattle.vectors.proofs.words_from.Given as goal

abbrev pub invariant-loop-k : goal.invariant-loop-k
invariant-loop-k l = (l.k-end ≡ length l.initial.row) × LeftWords l.text l.at l.initial.row l.k l.i l.row

abbrev pub decreases-loop-k : goal.decreases-loop-k
decreases-loop-k l = l.k-end - l.k
