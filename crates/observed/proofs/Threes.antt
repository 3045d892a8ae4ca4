-- Three numbers put at the places of an entry: they stand there, as a colour is read, and the other entries and the length stay. Assumes nothing.
use mathlib.Core.Path.{◌≡◌, ◌∙◌}
use mathlib.Core.List.{List}
use Prim.Native.Nat.{ℕ, ◌+◌, ◌*◌, ◌<◌}
use native.Mathlib.Omega.{arith}
use lib.ListN.{length, get_or, set, length-set}
use lib.Seq.{get_or-set_same, get_or-set_other}
use lib.Ieee.{Float, nan}
use Rattle.color.specs.Color.{linear}
use Rattle.color.specs.Palette.{linear_at}
use Rattle.observed.specs.Entries.{put_three}

module _ (l : List Float) (i : ℕ) (x y z : Float) where
  pub three-long : length (put_three l i x y z) ≡ length l
  three-long = simp length-set

  pub three-other : (j : ℕ) → (j ≡ 3 * i → ⊥) → (j ≡ 3 * i + 1 → ⊥) → (j ≡ 3 * i + 2 → ⊥) → get_or (put_three l i x y z) j nan ≡ get_or l j nan
  three-other j p q r =
      get_or-set_other (set (set l (3 * i) x) (3 * i + 1) y) (3 * i + 2) j z nan r ∙ get_or-set_other (set l (3 * i) x) (3 * i + 1) j y nan q ∙ get_or-set_other l (3 * i) j x nan p

  -- another entry
  module _ (j : ℕ) (h : j ≡ i → ⊥) where
    other_0 : get_or (put_three l i x y z) (3 * j) nan ≡ get_or l (3 * j) nan
    other_0 = three-other (3 * j) (λ e. h (omega arith)) (λ e. omega arith) (λ e. omega arith)

    other_1 : get_or (put_three l i x y z) (3 * j + 1) nan ≡ get_or l (3 * j + 1) nan
    other_1 = three-other (3 * j + 1) (λ e. omega arith) (λ e. h (omega arith)) (λ e. omega arith)

    other_2 : get_or (put_three l i x y z) (3 * j + 2) nan ≡ get_or l (3 * j + 2) nan
    other_2 = three-other (3 * j + 2) (λ e. omega arith) (λ e. omega arith) (λ e. h (omega arith))

    pub colour-other : linear_at (put_three l i x y z) j ≡ linear_at l j
    unfolding linear_at
    colour-other = rw (other_0, other_1, other_2)

  -- the entry itself
  module _ (h : 3 * i + 2 < length l) where
    own_0 : get_or (put_three l i x y z) (3 * i) nan ≡ x
    own_0 =
        get_or-set_other (set (set l (3 * i) x) (3 * i + 1) y) (3 * i + 2) (3 * i) z nan (λ e. omega arith) ∙ get_or-set_other (set l (3 * i) x) (3 * i + 1) (3 * i) y nan (λ e. omega arith) ∙
        get_or-set_same l (3 * i) x nan (omega arith)

    own_1 : get_or (put_three l i x y z) (3 * i + 1) nan ≡ y
    own_1 =
        get_or-set_other (set (set l (3 * i) x) (3 * i + 1) y) (3 * i + 2) (3 * i + 1) z nan (λ e. omega arith) ∙ get_or-set_same (set l (3 * i) x) (3 * i + 1) y nan (omega (arith, length-set l (3 * i) x))

    own_2 : get_or (put_three l i x y z) (3 * i + 2) nan ≡ z
    own_2 = get_or-set_same (set (set l (3 * i) x) (3 * i + 1) y) (3 * i + 2) z nan (omega (arith, length-set l (3 * i) x, length-set (set l (3 * i) x) (3 * i + 1) y))

    pub colour-own : linear_at (put_three l i x y z) i ≡ linear x y z
    unfolding linear_at
    colour-own = rw (own_0, own_1, own_2)
