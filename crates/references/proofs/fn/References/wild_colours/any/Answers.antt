-- The closure of `References::wild_colours` meets its contract: the six components are asked for what the definition asks. Assumes nothing.
use borrow.Author.Rules.{rules}
use Rattle.color.specs.Palette.{wild}
use Rattle.references.specs.References.{wild_colour_at}
use Rattle.references.proofs.fn.References.wild_colours.any.Goals as goal

pub returns : goal.returns
unfolding wild_colour_at
returns c = c.colour_is.ensures (wild) (λ x b h. search rules)
