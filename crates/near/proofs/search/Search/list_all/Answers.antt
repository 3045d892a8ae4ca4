-- `near::search::Search::list_all` meets its contract: what was listed is sorted.
-- Assumes nothing.
use native.Mathlib.Omega.{arith}
use Rattle.near.proofs.Listing.{collected_places, sorted_all, sorted_rest}
use Rattle.near.proofs.search.Search.list_all.Goals as goal

pub sort-requires : goal.sort-requires
sort-requires c =
    let s = c.requires in
    let w = c.list-m.ensures in
    (omega (arith, w.under, w.rest.long), collected_places w)

pub returns : goal.returns
returns c =
    let w = c.list-m.ensures in
    let z = c.sort.ensures in
    record { all = sorted_all w z c.args.self.strict; upper_bound = (w.under, sorted_rest w z) }
