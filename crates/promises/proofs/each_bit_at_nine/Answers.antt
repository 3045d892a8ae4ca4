-- `promises::each_bit_at_nine` meets its contract: the theorem of `guarantee`. Assumes nothing.
use Rattle.guarantee.proofs.Guarantee.{each-read_at_nine}
use Rattle.promises.proofs.each_bit_at_nine.Goals as goal

pub returns : goal.returns
returns c = each-read_at_nine
