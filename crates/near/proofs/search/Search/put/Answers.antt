-- `near::search::Search::put` meets its contract.
-- Assumes nothing.
use native.Mathlib.Omega.{arith}
use lib.ListN.{length-set}
use Rattle.near.proofs.Listing.{put-places}
use Rattle.near.proofs.search.Search.put.Goals as goal

pub sift-requires : goal.sift-requires
sift-requires c =
    let s = c.requires in
    let a = c.args in
    (omega arith, omega (arith, length-set a.out.now a.k a.i), put-places _ _ _ s.1 s.0 s.2)

pub returns : goal.returns
returns c = c.sift.ensures
