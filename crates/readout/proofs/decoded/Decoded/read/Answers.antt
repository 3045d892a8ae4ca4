-- `readout::Decoded::read` meets its contract: the first of an array of zeros are as many zeros. Assumes nothing.
use borrow.Author.Rules.{rules}
use lib.ListN.{length}
use Rattle.readout.specs.Sheet.{Few}
use Rattle.readout.proofs.Places.{modules-few, few_thrice, squares-below}
use Rattle.readout.proofs.Lists.{first_same, first_as}
use Rattle.readout.proofs.Next.{of_file}
use Rattle.readout.proofs.decoded.Decoded.read.Goals as goal

pub returns : goal.returns
returns c =
    let d = c.args.self.now in
    let few : Few d.settings (length d.xs.now) (length d.cxs.now) = search rules in
    let places = c.chroma_places-places.ensures in
    of_file _ _ _ _ _ _ _ _ _ _ _ _ _ _ _ _ _ _ c.list_on.ensures (first_same _ 1020 _ (modules-few _ _ _ few)) (first_same _ 3060 _ (few_thrice _ _ _ few)) (first_as _ _ 8160 _ places.0 places.1)
    (first_same _ 5776 _ (squares-below _ few.side)) (first_same _ 1020 _ (modules-few _ _ _ few)) (first_as _ _ 8160 _ places.0 places.1)
