-- `math::add_lines` meets its contract: what is left of the lines gives the same equations. Assumes nothing.
use Rattle.loops.specs.Loops.{for_up}
use Rattle.loops.proofs.Laws.{Left}
use Rattle.math.specs.Gauss.{system}
use Rattle.math.specs.Normal.{add_line}
use Rattle.math.proofs.add_lines.Given as goal

abbrev pub invariant-loop-i : goal.invariant-loop-i
invariant-loop-i l = Left (add_line l.terms l.row l.target) l.terms l.i (system l.ata l.atb) (for_up 0 l.terms (add_line l.terms l.row l.target) (system l.initial.ata l.initial.atb))
