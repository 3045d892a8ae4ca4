-- `residuals::write_residuals` meets its contract: before turn i the first i residuals are written. Assumes nothing.
use mathlib.Core.Path.{◌≡◌}
use lib.ListN.{length}
use Rattle.order.proofs.Fill.{Filling}
use Rattle.residuals.specs.Residual.{residuals_of}
use Rattle.residuals.proofs.write_residuals.Given as goal

abbrev pub invariant-loop-i : goal.invariant-loop-i
invariant-loop-i l =
    (length l.out ≡ length l.initial.out)
    × Filling (residuals_of l.m l.references.flat.now l.references.n) l.initial.out l.references.n l.i l.out
