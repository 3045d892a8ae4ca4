-- Sentence 12 of spots is that of the modules and of the cells whose spots they are. Assumes nothing.
use mathlib.Core.Path.{◌≡◌}
use mathlib.Core.Bool.{Bool}
use mathlib.Core.List.{List}
use Prim.Native.Nat.{ℕ}
use lib.IntN.{ℤ}
use lib.ListN.{length}
use lib.Ieee.{Float}
use Rattle.illum.specs.declared.IlluminationModel.{IlluminationModel}
use Rattle.observed.specs.Colours.{module_spot, cell_spot, module_colour, cell_colour, spot_colour}
use Rattle.observed.proofs.Corrected.{module_colours, cell-colours}
use Rattle.demod.specs.Call.{bad_corrected}

pub bad_seen : (model : IlluminationModel) (hues : ℕ) (r : Bool) (xs xs' ys ys' : List ℤ) (raw raw' : List Float) (size size' : ℕ) (cxs cxs' cys cys' : List ℕ) (craw craw' : List Float) →
    r ≡ bad_corrected hues (spot_colour model (module_spot xs' ys' raw')) (length xs') (spot_colour model (cell_spot size' cxs' cys' craw')) (length cxs') → xs' ≡ xs → ys' ≡ ys → raw' ≡ raw → size' ≡ size → cxs' ≡ cxs → cys' ≡ cys →
    craw' ≡ craw → r ≡ bad_corrected hues (module_colour model xs ys raw) (length xs) (cell_colour model size cxs cys craw) (length cxs)
bad_seen model hues r xs xs' ys ys' raw raw' size size' cxs cxs' cys cys' craw craw' e ex ey er es ecx ecy ecr =
    rw (← module_colours model xs ys raw, ← cell-colours model size cxs cys craw, ← ex, ← ey, ← er, ← es, ← ecx, ← ecy, ← ecr) e
