-- `reading::read_all` meets its contract: what is left of the scores gives the list. Assumes nothing.
use mathlib.Core.Path.{◌≡◌}
use lib.ListN.{length}
use Rattle.loops.proofs.Laws.{Left}
use Rattle.lists.specs.Lists.{replace_at}
use Rattle.reading.specs.Read.{read_score_at, read_list}
use Rattle.reading.proofs.read_all.Given as goal

abbrev pub invariant-loop-i : goal.invariant-loop-i
invariant-loop-i l =
    (length l.bits ≡ length l.initial.bits) × Left (replace_at 0 (read_score_at l.scores)) (length l.scores) l.i l.bits (read_list l.scores l.initial.bits)
