-- `order::median_value` meets its contract: counting finds the median, or selection does. Assumes nothing.
use mathlib.Core.Path.{◌≡◌, ap}
use mathlib.Core.List.{List}
use lib.Ieee.{Float}
use Rattle.order.specs.Median.{median_of, Ordered, ordered, ordered_of}
use Rattle.order.proofs.median_value.Goals as goal

selected : (xs zs : List Float) (r : Float) → ordered r zs ≡ ordered_of xs → r ≡ median_of xs
selected xs zs r e = ap (λ (o : Ordered). o.median) e

pub returns-in-None : goal.returns-in-None
returns-in-None c = search (selected)
