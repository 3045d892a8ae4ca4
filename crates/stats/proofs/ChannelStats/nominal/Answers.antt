-- `ChannelStats::nominal` meets its contract: the number, or the core's record, the palette having its levels. Assumes nothing.
use Rattle.answers.proofs.Answers.{turned_away, says-given}
use Rattle.stats.proofs.Passed.{past-levels}
use Rattle.stats.proofs.ChannelStats.nominal.Goals as goal

pub nominal_of-requires : goal.nominal_of-requires
nominal_of-requires c = past-levels _ _ c.in_ok-check_palette.ensures

pub returns-in_err-check_palette : goal.returns-in_err-check_palette
returns-in_err-check_palette c = search (turned_away, c.in_err-check_palette.ensures)

pub returns : goal.returns
returns c = search (says-given, c.in_ok-check_palette.ensures)
