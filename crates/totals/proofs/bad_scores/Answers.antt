-- `totals::bad_scores` meets its contract: `any` of the scores is the definition's search. Assumes nothing.
use borrow.Author.Rules.{rules}
use Rattle.loops.proofs.Laws.{any_from}
use Rattle.totals.proofs.bad_scores.Goals as goal

pub returns : goal.returns
returns c = any_from _ _ _ (search rules)
