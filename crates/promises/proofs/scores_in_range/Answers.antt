-- `promises::scores_in_range` meets its contract: the theorems of `demod`. Assumes nothing.
use Rattle.demod.proofs.Accepted.{done-answer}
use Rattle.demod.proofs.Range.{luma_in, colour-tame}
use Rattle.promises.proofs.Held.{held}
use Rattle.promises.proofs.scores_in_range.Goals as goal

pub returns : goal.returns
returns c = λ q z. let e = done-answer q z in record { luma = λ h i l. luma_in q (held q.noise h) e i l; colours = λ i l. colour-tame q e i l }
