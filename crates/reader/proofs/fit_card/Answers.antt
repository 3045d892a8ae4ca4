-- `reader::fit_card` meets its contract: a mark and 4 zeros of scratch a reference; the line of a refusal, or what follows the model. Assumes nothing.
use Rattle.reader.proofs.Lists.{marks_first, scratch_first}
use Rattle.reader.proofs.Next.{typed_err, typed_ok, has-fitted, not-fitted}
use Rattle.reader.proofs.fit_card.Goals as goal

pub returns-in-Err : goal.returns-in-Err
returns-in-Err c = record { listed = search (not-fitted, marks_first, scratch_first); typed = search (typed_err, marks_first, scratch_first) }

pub returns-in-Ok : goal.returns-in-Ok
returns-in-Ok c = record { listed = search (has-fitted, marks_first, scratch_first); typed = search (typed_ok, marks_first, scratch_first) }
