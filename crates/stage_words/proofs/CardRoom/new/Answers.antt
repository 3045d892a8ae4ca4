-- `CardRoom::new` meets its contract: each list is zeros. Assumes nothing.
use Rattle.std.proofs.Common.{refl}
use lib.Ieee.{of_bits}
use Rattle.stage_words.specs.Cards.{no_card}
use Rattle.stage_words.proofs.CardRoom.new.Goals as goal

pub returns : goal.returns
unfolding no_card of_bits
returns c = refl
