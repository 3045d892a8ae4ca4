-- `promises::accepted_is_listed` meets its contract: the theorems of `bits`, `readout` and `reader`. Assumes nothing.
use Rattle.bits.proofs.Joined.{accepts_all}
use Rattle.bits.proofs.Never.{none-refused}
use Rattle.readout.proofs.Never.{is_listed}
use Rattle.reader.proofs.Listed.{card-listed}
use Rattle.promises.proofs.Held.{held}
use Rattle.promises.proofs.accepted_is_listed.Goals as goal

pub returns : goal.returns
returns c =
    record {
      none-refused = λ s c h z r. accepts_all s c (none-refused s c z (held s.noise h) r.scratch r.bits r.symbols);
      sheet = λ c m n h z. is_listed c m n (held n h) z;
      file = λ s card r o f m d. card-listed s card r o f m d;
    }
