-- `reader::Places::decode` meets its contract: a loop over all places writes the front of an array. Assumes nothing.
use native.Mathlib.Omega.{arith}
use Rattle.reader.proofs.Lists.{front_filled, taken_long}
use Rattle.reader.proofs.Places.decode.Goals as goal

pub returns : goal.returns
returns g c =
    record {
      xs_are = front_filled _ _ _ _ _ c.numbers.ensures (taken_long _ 1020 _ (omega arith));
      ys_are = front_filled _ _ _ _ _ c.numbers-2.ensures (taken_long _ 1020 _ (omega arith));
      raw_are = front_filled _ _ _ _ _ c.colours.ensures (taken_long _ 3060 _ (omega arith));
    }
