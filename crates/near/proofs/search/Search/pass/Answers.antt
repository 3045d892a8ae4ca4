-- `near::search::Search::pass` meets its contract: after k turns the first k are sorted, where the steps are of 1.
-- Assumes nothing.
use native.Mathlib.Omega.{arith}
use Rattle.near.proofs.Sifting.{pass-starts, pass-ready, pass-goes, pass_ends}
use Rattle.near.proofs.search.Search.pass.Goals as goal

pub loop-k-init : goal.loop-k-init
loop-k-init c = (omega arith, pass-starts _)

pub sift-requires : goal.sift-requires
sift-requires c =
    let s = c.requires in
    let q = pass-ready c.loop-k.invariant.1 s.2 s.1 (omega arith) in
    (s.0, q.0, q.1)

pub loop-k-preserved : goal.loop-k-preserved
loop-k-preserved c = (omega arith, pass-goes c.loop-k.invariant.1 c.loop-k-test.true c.sift.ensures)

pub returns : goal.returns
returns c = pass_ends c.loop-k.invariant.1 (omega arith)
