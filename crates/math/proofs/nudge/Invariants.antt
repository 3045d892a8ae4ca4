-- `math::nudge` meets its contract: what is left of the diagonal gives the same matrix. Assumes nothing.
use Rattle.loops.proofs.Laws.{Left}
use Rattle.math.specs.Normal.{nudge_at, nudged}
use Rattle.math.proofs.nudge.Given as goal

abbrev pub invariant-loop-i : goal.invariant-loop-i
invariant-loop-i l = Left (nudge_at l.terms) l.terms l.i l.ata (nudged l.terms l.initial.ata)
