-- `Columns::chroma_sigma` meets its contract: the list, and its deviation. Assumes nothing.
use mathlib.Core.Path.{sym}
use lib.Seq.{length-take-le}
use Rattle.measure.proofs.Sigmas.{few_in, chroma-few, chroma-real, chroma}
use borrow.Author.Rules.{rules}
use Rattle.measure.proofs.Columns.chroma_sigma.Goals as goal

pub list-k-requires : goal.list-k-requires
list-k-requires c = (search rules, search rules, search (few_in))

pub returns-then-k-least : goal.returns-then-k-least
returns-then-k-least c = search (chroma-few)

pub slice_bounds-sigma_in-end-2 : goal.slice_bounds-sigma_in-end-2
slice_bounds-sigma_in-end-2 c = sym (length-take-le _ _ (search rules))

pub sigma_in-requires : goal.sigma_in-requires
sigma_in-requires c = search (chroma-real)

pub returns : goal.returns
returns c = search (chroma)
