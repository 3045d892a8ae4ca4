-- `totals::add_scores` meets its contract: after i turns the scores so far are added, which leaves room for one more. Assumes nothing.
use borrow.Author.Rules.{rules}
use Rattle.totals.proofs.Batches.{begun, none_yet, room, fits-there, turned, card-summed}
use Rattle.totals.proofs.add_scores.Goals as goal

pub loop-v-init : goal.loop-v-init
loop-v-init c = (search (begun), none_yet _)

pub add_score-requires : goal.add_score-requires
add_score-requires c = (search (fits-there), search (room))

pub loop-v-preserved : goal.loop-v-preserved
loop-v-preserved c = (search rules, search (turned))

pub returns : goal.returns
returns c = search (card-summed)
