-- `near::search::Search::nearest` meets its contract: after i turns the first three of those below i are listed.
-- Assumes nothing.
use mathlib.Core.Path.{refl, sym, ◌∙◌}
use native.Mathlib.Omega.{arith}
use lib.Seq.{length-take-le}
use Rattle.near.specs.Near.{passed}
use Rattle.near.proofs.Leading.{lead-starts, lead-places, lead-goes, lead_ends}
use Rattle.near.proofs.search.Search.nearest.Goals as goal
use Rattle.near.proofs.search.Search.nearest.Goals.{then-chosen, else-chosen}

pub loop-i-init : goal.loop-i-init
loop-i-init c = (omega arith, lead-starts _)

pub offer-m-requires-clause-room : goal.offer-m-requires-clause-room
offer-m-requires-clause-room c =
    let a = c.loop-i.invariant.1 in
    let s = c.args.self in
    let e = length-take-le s.n s.kept.now s.marked in
    (omega (arith, a.rest.long, c.requires), omega (arith, e, c.loop-i-test.true), a.under, lead-places a (omega (arith, e, c.loop-i-test.true)))

pub loop-i-preserved : goal.loop-i-preserved
loop-i-preserved c =
    let a = c.loop-i.invariant.1 in
    let s = c.args.self in
    let e = length-take-le s.n s.kept.now s.marked in (
      omega (arith, e, c.loop-i-test.true),
      elim c.if-chosen.branch [
        | then-chosen w ↦ rw (w.m-is, w.out-is) (lead-goes s.strict (omega (arith, e, c.loop-i-test.true)) (omega (arith, a.rest.long, c.requires)) a w.offer-m.ensures)
        | else-chosen w ↦
            rw (w.m-is, w.out-is)
            (lead-goes s.strict (omega (arith, e, c.loop-i-test.true)) (omega (arith, a.rest.long, c.requires)) a (passed (sym c.chosen.ensures ∙ w.if-chosen.false) refl refl))
      ],
    )

pub returns : goal.returns
returns c =
    let s = c.args.self in
    let e = length-take-le s.n s.kept.now s.marked in
    let w = lead_ends {n = s.n} c.loop-i.invariant.1 (omega (arith, e, c.loop-i-test.false, c.loop-i.invariant.0)) in
    record { first_three = w.three; upper_bound = (w.under, w.rest) }
