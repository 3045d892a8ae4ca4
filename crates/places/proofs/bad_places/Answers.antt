-- `places::bad_places` meets its contract: some module is misplaced, which the pairs are asked in turn. Assumes nothing.
use Rattle.std.proofs.Common.{rules}
use Rattle.loops.proofs.Laws.{any_from}
use Rattle.places.proofs.bad_places.Goals as goal

pub returns : goal.returns
returns c = any_from _ _ _ (search rules)
