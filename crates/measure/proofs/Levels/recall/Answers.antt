-- `Levels::recall` meets its contract: what is in the slot is known of the colour there, and what is kept is known of its colour. Assumes nothing.
use mathlib.Core.Path.{◌≡◌}
use mathlib.Core.Bool.{Bool, true}
use mathlib.Core.List.{List}
use Prim.Native.Nat.{ℕ, ◌<◌}
use lib.Ieee.{Float}
use Rattle.color.specs.declared.Linear.{Linear}
use Rattle.measure.specs.Columns.{known_of, known_in, Held, Remembered}
use Rattle.measure.proofs.Remembering.{recalled, remembered}
use borrow.Author.Rules.{rules}
use Rattle.measure.proofs.Levels.recall.Goals as goal

-- r is whether the slot holds c
from-slot : (palette memo : List Float) (j : ℕ) (c : Linear) (r : Bool) → r ≡ true → (r ≡ true → Held j c memo) → j < 256 → Remembered palette memo → known_in j memo ≡ known_of palette c
from-slot palette memo j c r t h l inv = recalled inv l c (h t)

pub returns-then-holds : goal.returns-then-holds
unfolding known_in
returns-then-holds c = (search (from-slot), search rules)

pub returns : goal.returns
returns c = (search rules, search (remembered))
