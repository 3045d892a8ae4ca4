-- `Columns::luma_sigma` meets its contract: the lists about the medians, and their deviation. Assumes nothing.
use mathlib.Core.Path.{sym}
use lib.Seq.{length-take-le}
use Rattle.measure.proofs.Sigmas.{luma-real, luma}
use borrow.Author.Rules.{rules}
use Rattle.measure.proofs.Columns.luma_sigma.Goals as goal

pub slice_bounds-sigma_in-end-2 : goal.slice_bounds-sigma_in-end-2
slice_bounds-sigma_in-end-2 c = sym (length-take-le _ _ (search rules))

pub sigma_in-requires : goal.sigma_in-requires
sigma_in-requires c = search (luma-real)

pub returns : goal.returns
returns c = search (luma)
