-- `order::quarters_of` meets its contract: what is left of the quarters gives the same four numbers. Assumes nothing.
use Rattle.loops.proofs.Laws.{Left}
use Rattle.order.specs.Quarters.{AllNumbers, quarters_at, quarters_of}
use Rattle.order.proofs.quarters_of.Given as goal

abbrev pub invariant-loop-i : goal.invariant-loop-i
invariant-loop-i l = AllNumbers l.l × Left (quarters_at l.v l.q) l.q l.i l.l (quarters_of l.v l.q)
