-- Linear systems (crate `math`): what `solve` leaves of the memory that it was lent. Definitions only.
use Rattle.std.specs.Prelude.{◌≡◌, List, ℕ, ◌*◌, ◌≤◌, length, get_or, Float}
use Rattle.std.specs.Float.{nan}
use Rattle.math.specs.Gauss.{solve_of}

-- `left` is as long as `lent`, and has its elements from place m on
pub record Tail (m : ℕ) (lent left : List Float) : Type 0 where
  pub long : length left ≡ length lent
  pub same : (i : ℕ) → m ≤ i → get_or left i nan ≡ get_or lent i nan

-- of a system of n unknowns: the matrix from place n * n on, the right-hand side and the slice for the unknowns from place n on. Solved, without a solution or refused, and for every n
pub record SolveKeepsTails : Type 0 where
  pub matrix : (n : ℕ) (a b x : List Float) → Tail (n * n) a (solve_of n a b x).a
  pub right_side : (n : ℕ) (a b x : List Float) → Tail n b (solve_of n a b x).b
  pub unknowns : (n : ℕ) (a b x : List Float) → Tail n x (solve_of n a b x).x
