-- `near::search::Search::list` meets its contract: after i turns those below i are listed.
-- Assumes nothing.
use mathlib.Core.Path.{sym, ◌∙◌}
use native.Mathlib.Omega.{arith}
use lib.Seq.{length-take-le}
use Rattle.near.proofs.Listing.{collect_starts, passed_over, taken, collect_ends}
use Rattle.near.proofs.search.Search.list.Goals as goal
use Rattle.near.proofs.search.Search.list.Goals.{then-chosen, else-chosen}

pub loop-i-init : goal.loop-i-init
loop-i-init c = (omega arith, collect_starts _)

pub loop-i-preserved : goal.loop-i-preserved
loop-i-preserved c =
    let a = c.loop-i.invariant.1 in
    let s = c.args.self in
    let e = length-take-le s.n s.kept.now s.marked in (
      omega (arith, e, c.loop-i-test.true),
      elim c.if-chosen.branch [
        | then-chosen w ↦ rw (w.m-is, w.out-is) (taken a (omega (arith, e, c.loop-i-test.true, a.under, a.rest.long, c.requires)) (sym c.chosen.ensures ∙ w.if-chosen.true))
        | else-chosen w ↦ rw (w.m-is, w.out-is) (passed_over a (sym c.chosen.ensures ∙ w.if-chosen.false))
      ],
    )

pub returns : goal.returns
returns c =
    let s = c.args.self in
    let e = length-take-le s.n s.kept.now s.marked in
    collect_ends c.loop-i.invariant.1 (omega (arith, e, c.loop-i-test.false, c.loop-i.invariant.0))
