-- `ChannelStats::hue_log_likelihoods` meets its contract: the number with the room untouched, or the core's likelihoods. Assumes nothing.
use Rattle.answers.proofs.Answers.{list_on, list_written}
use Rattle.stats.proofs.Passed.{past-likelihoods, past_room}
use Rattle.stats.proofs.ChannelStats.hue_log_likelihoods.Goals as goal

pub returns-in_err-check_likelihoods : goal.returns-in_err-check_likelihoods
returns-in_err-check_likelihoods c = search (list_on, c.in_err-check_likelihoods.ensures)

pub invariant_of-channel : goal.invariant_of-channel
invariant_of-channel c = record { long = past-likelihoods _ _ _ _ c.in_ok-check_likelihoods.ensures }

pub hue_log_likelihoods_of-requires : goal.hue_log_likelihoods_of-requires
hue_log_likelihoods_of-requires c = past_room _ _ _ _ c.in_ok-check_likelihoods.ensures

pub returns : goal.returns
returns c = search (list_written, c.in_ok-check_likelihoods.ensures)
