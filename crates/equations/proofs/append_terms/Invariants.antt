-- `equations::append_terms` meets its contract: what is left of the terms from k on writes the rest. Assumes nothing.
use Rattle.loops.proofs.Laws.{Left}
use Rattle.equations.specs.Once.{append_at, appended}
use Rattle.equations.proofs.append_terms.Given as goal

abbrev pub invariant-loop-k : goal.invariant-loop-k
invariant-loop-k l = Left (append_at l.b l.t) l.t l.k l.row (appended l.b l.t l.initial.row)
