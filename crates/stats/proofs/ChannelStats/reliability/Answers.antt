-- `ChannelStats::reliability` meets its contract: the number, or the core's value, the palette being long enough. Assumes nothing.
use Rattle.answers.proofs.Answers.{turned_away, says-given}
use Rattle.stats.proofs.Passed.{past}
use Rattle.stats.proofs.ChannelStats.reliability.Goals as goal

pub invariant_of-channel : goal.invariant_of-channel
invariant_of-channel c = record { long = past _ _ _ c.in_ok-check.ensures }

pub returns-in_err-check : goal.returns-in_err-check
returns-in_err-check c = search (turned_away, c.in_err-check.ensures)

pub returns : goal.returns
returns c = search (says-given, c.in_ok-check.ensures)
