-- `Columns::level_of` meets its contract: the list and its median. Assumes nothing.
use mathlib.Core.Path.{sym}
use lib.Seq.{length-take-le}
use Rattle.measure.proofs.Sigmas.{found, few_in, level-few, level}
use borrow.Author.Rules.{rules}
use Rattle.measure.proofs.Columns.level_of.Goals as goal

pub list-count-requires : goal.list-count-requires
list-count-requires c = (search rules, search rules, search (few_in))

pub returns-then-count-lt3 : goal.returns-then-count-lt3
returns-then-count-lt3 c = search (level-few)

pub slice_bounds-median-end-2 : goal.slice_bounds-median-end-2
slice_bounds-median-end-2 c = sym (length-take-le _ _ (search rules))

pub returns : goal.returns
returns c = search (level, found)
