-- `residuals::squares` meets its contract: what is left from i on adds the rest. Assumes nothing.
use lib.ListN.{length}
use Rattle.loops.proofs.Laws.{Left}
use Rattle.residuals.specs.Residual.{add_square, squares}
use Rattle.residuals.proofs.squares.Given as goal

abbrev pub invariant-loop-i : goal.invariant-loop-i
invariant-loop-i l = Left (add_square l.residuals l.live) (length l.residuals) l.i l.s (squares l.residuals l.live (length l.residuals))
