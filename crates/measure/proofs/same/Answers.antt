-- `measure::same` meets its contract: a pattern is of one float, and what is equal to a float is no NaN. Assumes nothing.
use mathlib.Core.Path.{◌≡◌, sym, subst}
use mathlib.Core.Bool.{true}
use lib.Dec.{T}
use lib.Ieee.{Float, binary32, fits}
use Rattle.measure.proofs.Remembering.{second-real, has-pattern, one_pattern}
use Rattle.measure.proofs.same.Goals as goal

-- the format holds what the function is handed
fit : (x : Float) → fits binary32 x ≡ true → T (fits binary32 x)
fit x e = subst T (sym e) tt

pub float_to_bits-result-then-a-b : goal.float_to_bits-result-then-a-b
float_to_bits-result-then-a-b c = search (has-pattern, second-real)

pub returns-then-a-b : goal.returns-then-a-b
returns-then-a-b c = one_pattern _ _ (fit _ c.well_formed.0.1) (fit _ c.well_formed.1.0.1) c.if-a-b.true
