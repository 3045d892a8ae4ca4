-- `measure::note` meets its contract: the model that corrected the colours is its own, and the roots are taken of the squares; the count is that of the corrected colours. Assumes nothing.
use Rattle.measure.proofs.Noting.{all_noted}
use Rattle.measure.proofs.note.Goals as goal

pub returns : goal.returns
returns c =
    let r = c in
    let v = r in
    let k = v.correct-held.ensures in
    (all_noted r.roots.ensures v.convert.ensures k.0, k.1)
