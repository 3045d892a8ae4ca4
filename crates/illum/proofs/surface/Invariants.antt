-- `illum::surface` meets its contract: what is left of the terms gives the same sum. Assumes nothing.
use Rattle.loops.proofs.Laws.{Left}
use Rattle.illum.specs.Surface.{add_term, summed}
use Rattle.illum.proofs.surface.Given as goal

abbrev pub invariant-loop-k : goal.invariant-loop-k
invariant-loop-k g l = Left (add_term l.c l.b) g.row.N l.k l.sum (summed g.row.N l.c l.b)
