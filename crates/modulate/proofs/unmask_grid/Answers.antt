-- `modulate::unmask_grid` meets its contract: each score that was looked at is unmasked, and the others are as they were. Assumes nothing.
use mathlib.Core.Path.{◌≡◌, refl, ◌∙◌}
use mathlib.Core.Bool.{Bool, true, false}
use borrow.Author.Rules.{rules}
use mathlib.Core.List.{List}
use Prim.Native.Nat.{ℕ, ◌+◌, ◌≤◌, ◌<◌}
use native.Mathlib.Omega.{arith}
use lib.IntN.{ℤ}
use lib.ListN.{length, get_or, set}
use lib.Seq.{get_or-set_same, get_or-set_other, set-get_or}
use lib.Ieee.{Float, nan, neg}
use Rattle.std.proofs.Common.{below_more}
use Rattle.modulate.specs.Score.{masked_at, unmask_at}
use Rattle.lists.proofs.Front.{front-below, front_written}
use Rattle.modulate.proofs.unmask_grid.Goals as goal
use Rattle.modulate.proofs.unmask_grid.Goals.{then-masked_at, else-masked_at}

module _ (id : ℕ) (xs ys : List ℤ) (first : List Float) where
  abbrev Unmasked : ℕ → List Float → Type 0
  Unmasked i s =
      ((j : ℕ) → j < i → get_or s j nan ≡ unmask_at id xs ys j (get_or first j nan)) × ((j : ℕ) → i ≤ j → get_or s j nan ≡ get_or first j nan)

  module _ (i : ℕ) (s : List Float) (l : i < length s) (p : Unmasked i s) (t : Bool) (e : t ≡ masked_at id xs ys i) where
    turned : t ≡ true → Unmasked (i + 1) (set s i (neg (get_or s i nan)))
    unfolding unmask_at
    turned m = (
      below_more _ _ (λ j h. get_or-set_other s i j _ nan (λ q. omega arith) ∙ p.0 j h) (get_or-set_same s i _ nan l ∙ rw (← e, m, p.1 i (omega arith)) refl),
      λ j h. get_or-set_other s i j _ nan (λ q. omega arith) ∙ p.1 j (omega arith),
    )

    kept : t ≡ false → Unmasked (i + 1) (set s i (get_or s i nan))
    unfolding unmask_at
    kept m = rw set-get_or (below_more _ _ p.0 (rw (← e, m) (p.1 i (omega arith))), λ j h. p.1 j (omega arith))

pub masked_at-requires : goal.masked_at-requires
masked_at-requires c = search (front-below, rules)

pub loop-i-preserved : goal.loop-i-preserved
loop-i-preserved c =
    elim c.if-masked_at.branch [
      | then-masked_at w ↦ rw w.score-items-is (turned _ _ _ _ _ _ (search rules) c.loop-i.invariant _ c.masked_at.ensures w.if-masked_at.true)
      | else-masked_at w ↦ rw w.score-items-is (kept _ _ _ _ _ _ (search rules) c.loop-i.invariant _ c.masked_at.ensures w.if-masked_at.false)
    ]

pub returns : goal.returns
returns c = front_written nan _ (unmask_at _ _ _) _ _ (search rules) c.loop-i.auto.score-items _ c.loop-i-test.false c.loop-i.invariant.0
