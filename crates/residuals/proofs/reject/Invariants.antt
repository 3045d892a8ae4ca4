-- `residuals::reject` meets its contract: what is left from i on rejects the rest; no more are rejected than were passed. Assumes nothing.
use mathlib.Core.Path.{◌≡◌}
use Prim.Native.Nat.{◌/◌, ◌≤◌}
use lib.ListN.{length}
use Rattle.loops.proofs.Laws.{Left}
use Rattle.residuals.specs.Residual.{rejection, reject_at, reject_above}
use Rattle.residuals.proofs.reject.Given as goal

abbrev pub invariant-loop-i : goal.invariant-loop-i
invariant-loop-i l =
    (length l.live ≡ length l.initial.live) × (l.rejected ≤ l.i)
    × Left (reject_at l.residuals l.limit (length l.residuals / 4)) (length l.residuals) l.i (rejection l.live l.rejected) (reject_above l.residuals l.limit (length l.residuals) l.initial.live)
