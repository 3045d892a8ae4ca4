-- `order::only_one` meets its contract: its three tests. Assumes nothing.
use mathlib.Core.Path.{sym, ◌∙◌}
use mathlib.Core.Bool.{false≢true}
use lib.Ieee.{of_bits, div, neg}
use Rattle.order.proofs.only_one.Goals as goal
use Rattle.order.proofs.only_one.Goals.{then-x, else-x}

pub returns-then-x-2 : goal.returns-then-x-2
unfolding of_bits div neg
returns-then-x-2 c =
    elim c.if-x.branch [
      | then-x w ↦ λ h. record { under = w.if-x.true; over = sym w.value-is ∙ c.if-x-2.true; some = h }
      | else-x w ↦ absurd (false≢true (sym w.if-x.false ∙ sym w.value-is ∙ c.if-x-2.true))
    ]
