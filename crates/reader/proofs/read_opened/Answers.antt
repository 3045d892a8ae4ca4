-- `reader::read_opened` meets its contract: the lists that are decoded are those of the file. Assumes nothing.
use native.Mathlib.Omega.{arith}
use Rattle.reader.proofs.Lists.{all_filled, taken_long}
use Rattle.reader.proofs.Next.{decoded, decoded-typed}
use Rattle.reader.proofs.Room.{card-in}
use Rattle.reader.proofs.read_opened.Goals as goal

pub returns : goal.returns
returns c =
    let a = c.args in
    let f = c.fit_card.ensures in
    let p = all_filled _ _ _ _ c.numbers.ensures (taken_long _ 4082 _ (omega arith)) in
    let r = all_filled _ _ _ _ c.numbers-2.ensures (taken_long _ 4080 _ (omega arith)) in
    let m = c.decode-modules.ensures in
    let n = c.decode-cells.ensures in
    (decoded _ _ _ _ _ _ _ _ _ _ p r m n _ _ f.listed, card-in a.file.now a.card c.requires (decoded-typed _ _ _ _ _ _ _ _ _ _ p r m n f.typed))
