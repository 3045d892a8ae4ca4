-- `promises::solve_keeps_tails` meets its contract: what elimination and back substitution write. Assumes nothing.
use Rattle.promises.proofs.Systems.{matrix-kept, right-side-kept, unknowns-kept}
use Rattle.promises.proofs.solve_keeps_tails.Goals as goal

pub returns : goal.returns
returns c = record { matrix = matrix-kept; right_side = right-side-kept; unknowns = unknowns-kept }
