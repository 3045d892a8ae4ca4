-- `vectors::name` meets its contract: the bytes up to the end of the name, and past the end of the text none. Assumes nothing.
use Rattle.vectors.proofs.Lines.{name_low, name_high, name_part, no_name_there}
use Rattle.vectors.proofs.name.Goals as goal

pub returns-then-text-at : goal.returns-then-text-at
returns-then-text-at c = search (no_name_there)

pub slice_bounds-result-count : goal.slice_bounds-result-count
slice_bounds-result-count c = search (name_low)

pub slice_bounds-result-start : goal.slice_bounds-result-start
slice_bounds-result-start c = search (name_low)

pub slice_bounds-result-end-2 : goal.slice_bounds-result-end-2
slice_bounds-result-end-2 c = search (name_high)

pub returns : goal.returns
returns c = search (name_part)
