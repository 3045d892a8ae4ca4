-- The pairs of the directory, each by its number. Assumes nothing.
use mathlib.Core.Path.{◌≡◌, refl}
use mathlib.Core.List.{List}
use Prim.Native.Nat.{ℕ, zero, suc, ◌<◌}
use native.Mathlib.Omega.{arith}
use lib.ListN.{get_or}
use Rattle.card.specs.declared.Pair.{Pair}
use Rattle.card.specs.Pairs.{pair_of, directory}

-- what holds of each of 0 to 4 holds of every number below 5
pub below_five : (P : ℕ → Type 0) → P 0 → P 1 → P 2 → P 3 → P 4 → (k : ℕ) → k < 5 → P k
below_five P a b c d e zero h = a
below_five P a b c d e (suc zero) h = b
below_five P a b c d e (suc (suc zero)) h = c
below_five P a b c d e (suc (suc (suc zero))) h = d
below_five P a b c d e (suc (suc (suc (suc zero)))) h = e
below_five P a b c d e (suc (suc (suc (suc (suc k))))) h = absurd (omega arith)

pair_in : (s : List ℕ) (d : Pair) (k : ℕ) → k < 5 → get_or (directory s) k d ≡ pair_of s k
pair_in s d = below_five (λ k. get_or (directory s) k d ≡ pair_of s k) refl refl refl refl refl

pub pair_is : (s : List ℕ) (pairs : List Pair) (d : Pair) (k : ℕ) → pairs ≡ directory s → k < 5 → get_or pairs k d ≡ pair_of s k
pair_is s pairs d k e h = rw e (pair_in s d k h)
