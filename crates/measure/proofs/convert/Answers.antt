-- `measure::convert` meets its contract: before turn i the numbers of i references are written, the colours of the others stand,
-- and every slot in use holds a colour with what is known of it. Assumes nothing.
use lib.Ieee.{binary32}
use Rattle.floatlaws.specs.Nan.{zero_by_zero}
use Rattle.measure.proofs.Noting.{convert_begin, convert_turn, convert_done}
use Rattle.measure.proofs.Remembering.{none_seen}
use borrow.Author.Rules.{rules}
use Rattle.measure.proofs.convert.Goals as goal

pub loop-i-init : goal.loop-i-init
loop-i-init c = (search rules, convert_begin _, none_seen _ _ (zero_by_zero binary32))

pub loop-i-preserved : goal.loop-i-preserved
loop-i-preserved c = (search rules, search (convert_turn), search rules)

pub returns : goal.returns
returns c = search (convert_done, rules)
