-- `math::eliminate_row` meets its contract: it makes the definition's test of the factor, and its two subtractions. Assumes nothing.
use mathlib.Core.Path.{◌≡◌}
use mathlib.Core.Bool.{true, false}
use mathlib.Core.List.{List}
use Prim.Native.Nat.{ℕ}
use borrow.Author.Tests.{not-true, not-false}
use lib.ListN.{get_or, set}
use lib.Ieee.{Float, nan, binary64, sub, mul, div, eq, ne, of_bits}
use Rattle.math.specs.Gauss.{system, at, zero64, subtract_row, eliminate_row}
use Rattle.math.proofs.eliminate_row.Goals as goal

module _ (n col r : ℕ) (a b : List Float) (d x : Float) (ex : x ≡ at n a r col) where
  clear : (a' : List Float) → ne (div binary64 x d) zero64 ≡ true → a' ≡ subtract_row n col r (div binary64 x d) a
      → system a' (set b r (sub binary64 (get_or b r nan) (mul binary64 (div binary64 x d) (get_or b col nan)))) ≡ eliminate_row n col d r (system a b)
  unfolding ne eliminate_row
  clear a' t h = cc (not-true (eq (div binary64 x d) zero64) t)

  skip : ne (div binary64 x d) zero64 ≡ false → system a b ≡ eliminate_row n col d r (system a b)
  unfolding ne eliminate_row
  skip t = cc (not-false (eq (div binary64 x d) zero64) t)

pub returns-then-f : goal.returns-then-f
unfolding of_bits
returns-then-f c = search (clear)

pub returns-else-f : goal.returns-else-f
unfolding of_bits
returns-else-f c = search (skip)
