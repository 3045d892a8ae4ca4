-- `totals::add_card` meets its contract: the refusal by the first sentence that holds, or the card added. Assumes nothing.
use Rattle.totals.proofs.Answers.{card-away, card_sum, good-before, room-before, fit-before, card-added}
use Rattle.totals.proofs.add_card.Goals as goal

pub returns-in_err-check_card : goal.returns-in_err-check_card
returns-in_err-check_card c = (search (card-away, c.in_err-check_card.ensures), card-added _ _)

pub add_scores-requires : goal.add_scores-requires
add_scores-requires c = let e = c.in_ok-check_card.ensures in (good-before _ _ e, room-before _ _ e, fit-before _ _ e)

pub returns : goal.returns
returns c = (search (card_sum, c.in_ok-check_card.ensures), card-added _ _)
