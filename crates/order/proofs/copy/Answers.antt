-- `order::copy` meets its contract: two lists of one length whose entries are the same are one. Assumes nothing.
use Rattle.std.proofs.Common.{arith}
use lib.Ieee.{nan}
use lib.Seq.{ext_get_or}
use Rattle.order.proofs.copy.Goals as goal

pub returns : goal.returns
returns c = ext_get_or nan _ _ c.loop-i.invariant.long (λ k h. c.loop-i.invariant.written k (omega arith))
