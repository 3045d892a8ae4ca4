-- `near::search::Search::find` meets its contract: case by case.
-- Assumes nothing.
use mathlib.Core.Path.{◌≡◌}
use mathlib.Core.Bool.{Bool}
use mathlib.Core.List.{List}
use Prim.Native.Nat.{ℕ}
use lib.Ieee.{Float}
use lib.IntN.{ℤ}
use Rattle.near.specs.declared.Query.{Query}
use Rattle.near.specs.declared.Query.TheVariants as query
use Rattle.near.specs.Near.{FirstThree, All, IsPromised}
use Rattle.near.proofs.search.Search.find.Goals as goal

-- after the match the query is known by its case
module _ (q : Query) (b : ℕ → ℕ → Bool) (chosen : ℕ → Bool) (n m : ℕ) (o : List ℕ) where
  three : q ≡ query.Nearest → FirstThree b chosen n m o → IsPromised q b chosen n m o
  unfolding IsPromised
  three e h = rw e h

  inside : (r : Float) → q ≡ query.Within r → All b chosen n m o → IsPromised q b chosen n m o
  unfolding IsPromised
  inside r e h = rw e h

  cut : (c : ℤ) → q ≡ query.CutOff c → All b chosen n m o → IsPromised q b chosen n m o
  unfolding IsPromised
  cut c e h = rw e h

pub returns-in-Nearest : goal.returns-in-Nearest
returns-in-Nearest c = record { promised = three _ _ _ _ _ _ c.in-Nearest.is c.nearest.ensures.first_three; upper_bound = c.nearest.ensures.upper_bound }

pub returns-in-Within : goal.returns-in-Within
returns-in-Within c = record { promised = inside _ _ _ _ _ _ _ c.in-Within.is c.list_all.ensures.all; upper_bound = c.list_all.ensures.upper_bound }

pub returns-in-CutOff : goal.returns-in-CutOff
returns-in-CutOff c =
    let w = c.list_all-in-CutOff.ensures in
    record { promised = cut _ _ _ _ _ _ _ c.in-CutOff.is w.all; upper_bound = w.upper_bound }
