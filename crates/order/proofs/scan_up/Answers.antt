-- `order::scan_up` meets its contract. The invariant: something still stops the scan, and the scan from i finds what it finds from `from`.
-- Assumes nothing.
use mathlib.Core.Path.{refl, sym, ◌∙◌}
use Rattle.order.proofs.Scan.{up_step, up_stop, up_next}
use native.Mathlib.Omega.{arith}
use Rattle.order.proofs.scan_up.Goals as goal

pub loop-i-init : goal.loop-i-init
loop-i-init c = (c.requires, refl)

pub loop-i-preserved : goal.loop-i-preserved
loop-i-preserved c =
    let l = c.loop-i in
    (up_next _ _ l.invariant.0 c.loop-i-test.true, l.invariant.1 ∙ up_step _ _ _ (omega arith) c.loop-i-test.true)

pub returns : goal.returns
returns c =
    let l = c.loop-i in
    sym (l.invariant.1 ∙ up_stop _ _ _ (omega arith) c.loop-i-test.false)
