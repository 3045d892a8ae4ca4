-- `order::select` meets its contract. The invariant, `Narrowing`: what is left to do from here comes to the whole selection, and k is in the range.
-- The measure is the range's length. Assumes nothing.
use mathlib.Core.Path.{◌≡◌, sym, ap, ◌∙◌}
use mathlib.Core.List.{List}
use lib.ListN.{length, get_or}
use lib.Ieee.{Float, nan}
use native.Mathlib.Omega.{arith}
use Rattle.order.specs.Median.{selected}
use Rattle.order.proofs.Narrowing as narrowing
use Rattle.order.proofs.Narrowing.{starts, narrowed-done}
use Rattle.order.proofs.select.Goals as goal
use Rattle.order.proofs.select.Goals.{else-loop-lo-test, then-loop-lo-test+else-k-cut+else-cut-k}

pub loop-lo-init : goal.loop-lo-init
unfolding selected
loop-lo-init c = starts _ _ (omega arith)

pub partition-cut-requires : goal.partition-cut-requires
partition-cut-requires c =
    let g = c.loop-lo.invariant in
    let h = c.loop-lo-test.true in
    record { stops_up = narrowing.stops_up _ _ _ _ _ _ g h; stops_down = narrowing.stops-down _ _ _ _ _ _ g h }

pub loop-lo-smaller-then-k-cut : goal.loop-lo-smaller-then-k-cut
loop-lo-smaller-then-k-cut c = let h = narrowing.narrows _ _ _ _ _ _ c.loop-lo.invariant c.loop-lo-test.true _ _ _ c.partition-cut.ensures.v_after c.partition-cut.ensures.up_value c.partition-cut.ensures.end_value in omega arith

pub loop-lo-preserved-then-k-cut : goal.loop-lo-preserved-then-k-cut
loop-lo-preserved-then-k-cut c =
    let a = c in
    let q = a.partition-cut.ensures in
    narrowing.narrow-low _ _ _ _ _ _ a.loop-lo.invariant a.loop-lo-test.true _ _ _ q.v_after q.up_value q.end_value c.if-k-cut.true

pub loop-lo-smaller : goal.loop-lo-smaller
loop-lo-smaller c = let h = narrowing.narrows _ _ _ _ _ _ c.loop-lo.invariant c.loop-lo-test.true _ _ _ c.partition-cut.ensures.v_after c.partition-cut.ensures.up_value c.partition-cut.ensures.end_value in omega arith

pub loop-lo-preserved : goal.loop-lo-preserved
loop-lo-preserved c =
    let a = c in
    let q = a.partition-cut.ensures in
    narrowing.narrow_high _ _ _ _ _ _ a.loop-lo.invariant a.loop-lo-test.true _ _ _ q.v_after q.up_value q.end_value c.if-k-cut.false c.if-cut-k.true

-- after the loop, by either way out, nothing is left to do
pub bounds-v-k : goal.bounds-v-k
bounds-v-k c =
    let g = c.loop-lo.invariant in
    let h : length c.loop-lo-test.v ≡ length c.args.v.now =
    elim c.loop-lo-test.branch [
      | else-loop-lo-test w ↦ ap (λ (x : List Float). length x) w.v-is ∙ g.same
      | then-loop-lo-test+else-k-cut+else-cut-k w ↦
          let q = w.partition-cut.ensures in ap (λ (x : List Float). length x) w.v-is ∙ narrowing.length-left _ _ _ _ _ _ g w.loop-lo-test.true _ _ _ q.v_after q.up_value q.end_value
    ]
    in omega arith

pub shape_of-v : goal.shape_of-v
shape_of-v c =
    let g = c.loop-lo.invariant in
    elim c.loop-lo-test.branch [
      | else-loop-lo-test w ↦ ap (λ (x : List Float). length x) w.v-is ∙ g.same
      | then-loop-lo-test+else-k-cut+else-cut-k w ↦
          let q = w.partition-cut.ensures in ap (λ (x : List Float). length x) w.v-is ∙ narrowing.length-left _ _ _ _ _ _ g w.loop-lo-test.true _ _ _ q.v_after q.up_value q.end_value
    ]

pub returns : goal.returns
returns c =
    let g = c.loop-lo.invariant in
    let e : selected c.args.k c.args.v.now ≡ c.loop-lo-test.v =
    elim c.loop-lo-test.branch [
      | else-loop-lo-test w ↦ g.left ∙ narrowed-done _ _ _ _ g.rounds w.loop-lo-test.false ∙ sym w.v-is
      | then-loop-lo-test+else-k-cut+else-cut-k w ↦
          let q = w.partition-cut.ensures in narrowing.narrow-met _ _ _ _ _ _ g w.loop-lo-test.true _ _ _ q.v_after q.up_value q.end_value w.if-k-cut.false w.if-cut-k.false ∙ sym w.v-is
    ]
    in
    record { v_after = sym e; value = ap (λ (x : List Float). get_or x c.args.k nan) (sym e) }
