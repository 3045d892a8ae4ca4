-- `vectors::agreeing_in` meets its contract: the first n words of a row are its first up to the smaller of n and its length. Assumes nothing.
use Rattle.vectors.proofs.Front.{length-smaller, shared_smaller}
use Rattle.vectors.proofs.agreeing_in.Goals as goal

pub slice_bounds-agreeing-end : goal.slice_bounds-agreeing-end
slice_bounds-agreeing-end c = search (length-smaller)

pub slice_bounds-agreeing-end-2 : goal.slice_bounds-agreeing-end-2
slice_bounds-agreeing-end-2 c = search (length-smaller)

pub returns : goal.returns
returns c = search (shared_smaller)
