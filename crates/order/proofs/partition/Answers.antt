-- `order::partition` meets its contract. The invariant, `Going`: what is left to do from here comes to the whole parting, and while there is
-- something left, both scans are stopped within the slice. The measure is how many places are to go. Assumes nothing.
use Prim.Native.Nat.{◌-◌}
use mathlib.Core.Path.{refl, sym, ap, ◌∙◌}
use native.Mathlib.Omega.{arith}
use lib.Ieee.{nan}
use Rattle.std.proofs.lemmas.List.Edits.{swap_is}
use Rattle.order.specs.Median.{Parted}
use Rattle.order.proofs.Parting as parting
use Rattle.order.proofs.Parting.{Ends, parted-done}
use Rattle.order.proofs.partition.Goals as goal

pub loop-i-init : goal.loop-i-init
loop-i-init c =
    let s = c in
    record { same = refl; rounds = s.args.hi - s.args.lo; enough = omega arith; left = refl; stops = λ _. record { up = s.requires.stops_up; down = s.requires.stops_down } }

pub scan_up-i-requires : goal.scan_up-i-requires
scan_up-i-requires c = (c.loop-i.invariant.stops c.loop-i-test.true).up

pub scan_down-e-requires : goal.scan_down-e-requires
scan_down-e-requires c = (c.loop-i.invariant.stops c.loop-i-test.true).down

pub swap-requires : goal.swap-requires
swap-requires c =
    let h = parting.ends _ _ _ _ (c.loop-i.invariant.stops c.loop-i-test.true) _ _ c.scan_up-i.ensures c.scan_down-e.ensures in
    record { a_in_bounds = omega arith; b_in_bounds = omega arith }

pub overflow_add-i : goal.overflow_add-i
overflow_add-i c = let h = parting.ends _ _ _ _ (c.loop-i.invariant.stops c.loop-i-test.true) _ _ c.scan_up-i.ensures c.scan_down-e.ensures in omega arith

pub loop-i-smaller-then-i-e : goal.loop-i-smaller-then-i-e
loop-i-smaller-then-i-e c = let h = parting.ends _ _ _ _ (c.loop-i.invariant.stops c.loop-i-test.true) _ _ c.scan_up-i.ensures c.scan_down-e.ensures in omega arith

pub loop-i-preserved-then-i-e : goal.loop-i-preserved-then-i-e
loop-i-preserved-then-i-e c =
    let a = c in
    let h = parting.ends _ _ _ _ (c.loop-i.invariant.stops c.loop-i-test.true) _ _ c.scan_up-i.ensures c.scan_down-e.ensures in
    let e = c.swap.ensures.after ∙ sym (swap_is c.loop-i.v c.scan_up-i.result (c.scan_down-e.result - 1) nan (omega arith) (omega arith)) in
    rw e
    (parting.going_on _ _ _ _ _ _ a.loop-i.invariant a.loop-i-test.true _ _ a.scan_up-i.ensures a.scan_down-e.ensures
    c.if-i-e.true)

pub loop-i-smaller : goal.loop-i-smaller
loop-i-smaller c = let h = parting.ends _ _ _ _ (c.loop-i.invariant.stops c.loop-i-test.true) _ _ c.scan_up-i.ensures c.scan_down-e.ensures in omega arith

pub loop-i-preserved : goal.loop-i-preserved
loop-i-preserved c =
    let a = c in
    parting.going_met _ _ _ _ _ _ a.loop-i.invariant a.loop-i-test.true _ _ a.scan_up-i.ensures a.scan_down-e.ensures
    c.if-i-e.false

pub shape_of-v : goal.shape_of-v
shape_of-v c = c.loop-i.invariant.same

pub returns : goal.returns
returns c =
    let g = c.loop-i.invariant in
    let q = sym (g.left ∙ parted-done _ _ _ _ g.rounds c.loop-i-test.false) in
    record { v_after = ap (λ (r : Parted). r.list) q; up_value = ap (λ (r : Parted). r.up) q; end_value = ap (λ (r : Parted). r.end) q }
