-- `measure::sigma_in` meets its contract: the distances are those of the values in another order. Assumes nothing.
use Rattle.measure.proofs.Sigmas.{in_place}
use Rattle.measure.proofs.sigma_in.Goals as goal

pub returns : goal.returns
returns c =
    let two = c in
    let less = two in
    let one = less in
    let start = one in
    in_place start.args.values.now _ _ one.median-m.ensures _ _ _ _ c.max.ensures two.median.ensures less.deviate_in.ensures start.requires
