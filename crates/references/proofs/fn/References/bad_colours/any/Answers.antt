-- The closure of `References::bad_colours` meets its contract: the six components are asked for what the definition asks. Assumes nothing.
use borrow.Author.Rules.{rules}
use Rattle.illum.specs.Refusals.{not_finite}
use Rattle.references.specs.References.{bad_colour_at}
use Rattle.references.proofs.fn.References.bad_colours.any.Goals as goal

pub returns : goal.returns
unfolding bad_colour_at
returns c = c.colour_is.ensures not_finite (λ x b h. search rules)
