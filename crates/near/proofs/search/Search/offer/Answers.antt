-- `near::search::Search::offer` meets its contract: one case for each way out.
-- Assumes nothing.
use mathlib.Core.Path.{refl, sym, ap, ◌∙◌}
use native.Mathlib.Omega.{arith}
use Rattle.near.specs.Near.{before, added, last, instead}
use Rattle.near.proofs.search.Search.offer.Goals as goal

pub put-requires : goal.put-requires
put-requires c =
    let s = c.requires.room in
    (s.1, omega arith, s.3)

pub returns-then-m-lt3 : goal.returns-then-m-lt3
returns-then-m-lt3 c =
    added c.requires.chosen c.if-m-lt3.true refl c.put.ensures

pub before-requires : goal.before-requires
before-requires c =
    let s = c.requires.room in
    let w = s.3.below 2 (omega arith) in
    (s.1, omega (arith, c.wide.ensures))

pub returns-then-not-before : goal.returns-then-not-before
returns-then-not-before c =
    last c.requires.chosen c.if-m-lt3.false
    (ap (before _ _ _ _) (sym c.wide.ensures) ∙ sym c.before-2.ensures ∙ c.if-not-before.true) refl refl

pub put-requires-2 : goal.put-requires-2
put-requires-2 c =
    let s = c.requires.room in
    (s.1, omega arith, record { below = λ j h. s.3.below j (omega arith) })

pub returns : goal.returns
returns c =
    instead c.requires.chosen c.if-m-lt3.false
    (ap (before _ _ _ _) (sym c.wide.ensures) ∙ sym c.before-2.ensures ∙ c.if-not-before.false) refl c.put-2.ensures
