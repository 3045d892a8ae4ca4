-- `colour_counts` meets its contract: the number with the room untouched, or the counts, which add up. Assumes nothing.
use Rattle.answers.proofs.Answers.{list_on, list_written}
use Rattle.counts.proofs.Passed.{past-hues, past-palette, past_room, of_refused, of_done}
use Rattle.counts.proofs.colour_counts.Goals as goal

pub returns-in_err-check : goal.returns-in_err-check
returns-in_err-check c = (search (list_on, c.in_err-check.ensures), of_refused _ _ _ _ _ _ _ c.from_residual.ensures)

pub invariant_of-division : goal.invariant_of-division
invariant_of-division c = record { long = past-palette _ _ _ _ c.in_ok-check.ensures }

pub invariant_of-division-2 : goal.invariant_of-division-2
invariant_of-division-2 c = record { hue_count = past-hues _ _ _ _ c.in_ok-check.ensures }

pub counts_of-requires : goal.counts_of-requires
counts_of-requires c = past_room _ _ _ _ c.in_ok-check.ensures

pub returns : goal.returns
returns c = (search (list_written, c.in_ok-check.ensures), search (of_done))
