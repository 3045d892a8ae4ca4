-- `refine::Card::check` meets its contract: what a later test asks was shown by those before it. Assumes nothing.
use Rattle.refine.proofs.Passed.{side-most, in_pairs, all_listed}
use Rattle.refine.proofs.Card.check.Goals as goal

pub check_modules-requires : goal.check_modules-requires
check_modules-requires c = (search (side-most), search (in_pairs))

pub short_slices-requires : goal.short_slices-requires
short_slices-requires c = search (side-most)

pub wild_numbers-requires : goal.wild_numbers-requires
wild_numbers-requires c = search (all_listed)
