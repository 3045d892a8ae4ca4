-- `math::eliminate_column` meets its contract: it makes the definition's test of the pivot, and its two steps. Assumes nothing.
use mathlib.Core.Path.{◌≡◌, refl, ◌∙◌}
use mathlib.Core.Bool.{true, false}
use mathlib.Core.List.{List}
use Prim.Native.Nat.{ℕ}
use lib.Ieee.{Float, binary64, lt, of_bits, round}
use Rattle.loops.specs.Loops.{go, out}
use Rattle.float.specs.Select.{abs}
use Rattle.math.specs.Gauss.{Alike, system, at, tiny, pivot_row, bring_up, eliminate_below, eliminate_column}
use Rattle.math.proofs.eliminate_column.Goals as goal

-- 1e-12 as the code has it
literal : of_bits binary64 0x3d71_9799_812d_ea11 ≡ tiny
unfolding of_bits round tiny
literal = refl

-- a column, by what its test found
module _ (n col p : ℕ) (a b : List Float) (x y z : Float) (ep : p ≡ pivot_row n a col) (ex : x ≡ at n a p col) (hy : Alike y (abs x)) (ez : z ≡ tiny) where
  same : lt y z ≡ lt (abs (at n a (pivot_row n a col) col)) tiny
  same = hy.below z ∙ rw (ez, ex, ep)

  singular : lt y z ≡ true → out (system a b) ≡ eliminate_column n col (system a b)
  unfolding eliminate_column
  singular t = cc (same)

  cleared : (a₁ b₁ a₂ b₂ : List Float) → lt y z ≡ false → system a₁ b₁ ≡ bring_up n col p (system a b) → system a₂ b₂ ≡ eliminate_below n col (system a₁ b₁)
      → go (system a₂ b₂) ≡ eliminate_column n col (system a b)
  unfolding eliminate_column
  cleared a₁ b₁ a₂ b₂ t e₁ e₂ = cc (same)

pub returns-then-magnitude : goal.returns-then-magnitude
returns-then-magnitude c = search (singular, literal)

pub returns : goal.returns
returns c = search (cleared, literal)
