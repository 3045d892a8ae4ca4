-- `order::scan_down` meets its contract. The invariant: something still stops the scan, and the scan from e finds what it finds from `end`.
-- Assumes nothing.
use mathlib.Core.Path.{refl, sym, ◌∙◌}
use Rattle.order.proofs.Scan.{down_step, down-stop, down-next}
use native.Mathlib.Omega.{arith}
use Rattle.order.proofs.scan_down.Goals as goal

pub loop-e-init : goal.loop-e-init
loop-e-init c = (c.requires, refl)

pub loop-e-preserved : goal.loop-e-preserved
loop-e-preserved c =
    let l = c.loop-e in
    (down-next _ _ l.invariant.0 c.loop-e-test.true, l.invariant.1 ∙ down_step _ _ _ _ (omega arith) c.loop-e-test.true)

pub returns : goal.returns
returns c =
    let l = c.loop-e in
    sym (l.invariant.1 ∙ down-stop _ _ _ _ (omega arith) c.loop-e-test.false)
