-- `residuals::not_finite_in` meets its contract: `any` of the residuals is the definition's search. Assumes nothing.
use borrow.Author.Rules.{rules}
use Rattle.loops.proofs.Laws.{any_from}
use Rattle.residuals.proofs.not_finite_in.Goals as goal

pub returns : goal.returns
returns c = any_from _ _ _ (search rules)
