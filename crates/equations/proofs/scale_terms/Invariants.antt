-- `equations::scale_terms` meets its contract: what is left of the terms from k on writes the rest. Assumes nothing.
use Rattle.loops.proofs.Laws.{Left}
use Rattle.equations.specs.Once.{scale_at, scaled}
use Rattle.equations.proofs.scale_terms.Given as goal

abbrev pub invariant-loop-k : goal.invariant-loop-k
invariant-loop-k l = Left (scale_at l.b l.nominal) l.t l.k l.row (scaled l.b l.t l.nominal l.initial.row)
