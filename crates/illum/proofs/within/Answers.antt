-- `illum::within` meets its contract: its ten tests. What it is handed are f32s.
-- Assumes nothing.
use Rattle.std.proofs.Common.{refl}
use lib.Ieee.{of_bits}
use Rattle.illum.specs.Reach.{is_within}
use Rattle.illum.proofs.within.Goals as goal

pub returns : goal.returns
unfolding is_within of_bits
returns c =
    let k = c.struct_known-10-1.given in
    (refl, record { at_x = k.0; at_y = k.1.0; red = k.1.1.0.0; green = k.1.1.0.1.0; blue = k.1.1.0.1.1.0 })
