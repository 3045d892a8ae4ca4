-- `promises::measured_records` meets its contract: the theorem of `measure`. Assumes nothing.
use Rattle.measure.proofs.Passes.{answered-passes}
use Rattle.promises.proofs.Held.{singles}
use Rattle.promises.proofs.measured_records.Goals as goal

pub returns : goal.returns
returns c = λ q f p r e. let a = answered-passes q f p r e in record { eight = a.eight; nine = a.nine; singles = singles r.noise a.held }
