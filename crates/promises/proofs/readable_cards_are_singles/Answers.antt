-- `promises::readable_cards_are_singles` meets its contract: the numbers of a file are decoded from bit patterns, and measured from such. Assumes nothing.
use Rattle.promises.proofs.Premises.{file-singles}
use Rattle.promises.proofs.readable_cards_are_singles.Goals as goal

pub returns : goal.returns
returns c = file-singles
