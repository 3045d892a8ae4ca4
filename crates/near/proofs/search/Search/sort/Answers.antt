-- `near::search::Search::sort` meets its contract: every pass leaves the same places, and the last one sorts them.
-- Assumes nothing.
use mathlib.Core.Path.{refl}
use mathlib.Core.List.{List, [], ◌∷◌}
use Prim.Native.Nat.{ℕ, ◌<◌, ◌≤◌}
use native.Mathlib.Omega.{arith}
use borrow.Author.Tests.{ltb-false}
use lib.Dec.{ltb}
use lib.ListN.{get_or}
use Rattle.loops.specs.Loops.{some_of, any_up}
use Rattle.loops.proofs.Laws.{any_up-false}
use Rattle.near.proofs.Mixing.{same, then, places_in}
use Rattle.near.proofs.Sifting.{pass_last}
use Rattle.near.proofs.search.Search.sort.Goals as goal

abbrev gaps : List ℕ
gaps = 9841 ∷ 3280 ∷ 1093 ∷ 364 ∷ 121 ∷ 40 ∷ 13 ∷ 4 ∷ []

wide : (j : ℕ) → j < 8 → 1 ≤ get_or gaps j 0
unfolding some_of any_up
wide j p = ltb-false (get_or gaps j 0) 1 (any_up-false (λ k. ltb (get_or gaps k 0) 1) 8 refl j p)

pub loop-gap-init : goal.loop-gap-init
loop-gap-init c = same _ _

pub pass-requires : goal.pass-requires
pass-requires c =
    let s = c.requires in
    let w = c.loop-gap.invariant in
    (wide c.loop-gap.gap-index c.loop-gap-test.true, omega (arith, w.long), places_in w s.1)

pub loop-gap-preserved : goal.loop-gap-preserved
loop-gap-preserved c = then c.loop-gap.invariant c.pass.ensures.mixed

pub pass-requires-2 : goal.pass-requires-2
pass-requires-2 c =
    let s = c.requires in
    let w = c.loop-gap.invariant in
    (omega arith, omega (arith, w.long), places_in w s.1)

pub returns : goal.returns
returns c = pass_last c.loop-gap.invariant c.pass-2.ensures
