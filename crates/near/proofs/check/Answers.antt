-- `near::check` meets its contract: past 2 the side is at most 1,024. Assumes nothing.
use Rattle.std.proofs.Common.{sym, ◌∙◌}
use Rattle.limits.proofs.Laws.{side_in}
use Rattle.near.proofs.check.Goals as goal

pub invariant_of-ring : goal.invariant_of-ring
invariant_of-ring c = record { most = (side_in _ (sym c.bad_side.ensures ∙ c.if-bad_side.false)).1 }
