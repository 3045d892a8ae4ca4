-- `measure::holds` meets its contract: the three components are the colour's. Assumes nothing.
use mathlib.Core.Path.{sym, ◌∙◌}
use Rattle.measure.proofs.Remembering.{never, held}
use Rattle.measure.proofs.holds.Goals as goal
use Rattle.measure.proofs.holds.Goals.{then-same, else-same}

pub returns-then-same-2 : goal.returns-then-same-2
returns-then-same-2 c =
    elim c.if-same.branch [
      | then-same w ↦ λ e. held _ _ _ (c.same.ensures w.if-same.true) (w.same-then-same.ensures (sym w.value-is ∙ c.if-same-2.true)) (c.same-then-same-2.ensures e)
      | else-same w ↦ λ e. absurd (never (sym w.if-same.false ∙ sym w.value-is ∙ c.if-same-2.true))
    ]
