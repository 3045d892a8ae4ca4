-- `math::swap_rows` meets its contract: what is left of the columns gives the same matrix. Assumes nothing.
use Rattle.loops.proofs.Laws.{Left}
use Rattle.math.specs.Gauss.{swap_at, swap_rows}
use Rattle.math.proofs.swap_rows.Given as goal

abbrev pub invariant-loop-k : goal.invariant-loop-k
invariant-loop-k l = Left (swap_at l.n l.r l.q) l.n l.k l.a (swap_rows l.n l.r l.q l.initial.a)
