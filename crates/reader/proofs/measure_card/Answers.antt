-- `reader::measure_card` meets its contract: the scratch is 4 zeros a reference; the line of a refusal, or what follows the noise record. Assumes nothing.
use Rattle.reader.proofs.Lists.{scratch_first}
use Rattle.reader.proofs.Next.{measured, not-measured}
use Rattle.reader.proofs.measure_card.Goals as goal

pub returns-in-Err-clause-listed : goal.returns-in-Err-clause-listed
returns-in-Err-clause-listed c = search (not-measured, scratch_first)

pub returns-in-Ok-clause-listed : goal.returns-in-Ok-clause-listed
returns-in-Ok-clause-listed c = search (measured, scratch_first)
