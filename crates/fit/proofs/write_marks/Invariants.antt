-- `fit::write_marks` meets its contract: what is left of the references gives the marks. Assumes nothing.
use mathlib.Core.Path.{◌≡◌}
use lib.ListN.{length}
use Rattle.loops.proofs.Laws.{Left}
use Rattle.lists.specs.Lists.{replace_at}
use Rattle.fit.specs.Fit.{mark_at, marks_of}
use Rattle.fit.proofs.write_marks.Given as goal

abbrev pub invariant-loop-i : goal.invariant-loop-i
invariant-loop-i l =
    (length l.kept ≡ length l.initial.kept)
    × Left (replace_at 0 (mark_at l.count l.live)) (length l.live) l.i l.kept (marks_of l.count l.live (length l.live) l.initial.kept)
