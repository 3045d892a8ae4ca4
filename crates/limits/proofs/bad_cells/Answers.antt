-- `limits::bad_cells` meets its contract: some listed cell is bad, which the pairs are asked in turn. Assumes nothing.
use Rattle.std.proofs.Common.{rules}
use Rattle.loops.proofs.Laws.{any_from}
use Rattle.limits.proofs.bad_cells.Goals as goal

pub returns : goal.returns
returns c = any_from _ _ _ (search rules)
