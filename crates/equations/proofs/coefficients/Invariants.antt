-- `equations::coefficients` meets its contract: what is left of the terms from k on copies the rest. Assumes nothing.
use Rattle.loops.proofs.Laws.{Left}
use Rattle.equations.specs.Once.{taken_at, coefficients}
use Rattle.equations.proofs.coefficients.Given as goal

abbrev pub invariant-loop-k : goal.invariant-loop-k
invariant-loop-k l = Left (taken_at l.fn.x l.from) l.t l.k l.l (coefficients l.fn.x l.from l.t)
