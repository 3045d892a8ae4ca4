-- `illum::any_large` meets its contract: the test that is passed on is the definition's, and a model has the numbers of its parts. Assumes nothing.
use Rattle.std.proofs.Common.{not, ap, ◌∙◌}
use Rattle.illum.specs.Correct.{uncounted}
use Rattle.illum.specs.Tests.{any_of_model}
use Rattle.illum.specs.Reach.{most_number, is_from}
use Rattle.illum.proofs.any_large.Goals as goal

pub returns : goal.returns
unfolding uncounted
returns c = c.any.ensures (λ v. not (is_from most_number v)) (λ x b q. q) ∙ ap (any_of_model (λ v. not (is_from most_number v))) c.of.ensures
