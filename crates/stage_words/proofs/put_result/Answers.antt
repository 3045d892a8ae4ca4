-- `stage_words::put_result` meets its contract: 0 is put before the call that puts the value. Assumes nothing.
use Rattle.std.proofs.Common.{refl}
use Rattle.stage_words.proofs.put_result.Goals as goal

pub returns-in-Ok-clause-accepted : goal.returns-in-Ok-clause-accepted
returns-in-Ok-clause-accepted g c = rw c.in-Ok.is (_, _, c.put.ensures, c.put-in-Ok.ensures, refl)
