-- `ChannelStats::sigma_ab_at` meets its contract: the number, or the core's value. Assumes nothing.
use Rattle.answers.proofs.Answers.{turned_away, says-given}
use Rattle.stats.proofs.ChannelStats.sigma_ab_at.Goals as goal

pub returns-in_err-check_record : goal.returns-in_err-check_record
returns-in_err-check_record c = search (turned_away, c.in_err-check_record.ensures)

pub returns : goal.returns
returns c = search (says-given, c.in_ok-check_record.ensures)
