-- What the functions that work on a matrix or a system in place ask of what they are handed. Definitions only.
use Rattle.std.specs.Prelude.{List, ℕ, ◌*◌, ◌≤◌, ◌<◌, length, Float}

-- `a` has an n by n matrix, and row r and column k lie in it
pub record Cell (n : ℕ) (a : List Float) (r k : ℕ) : Type 0 where
  pub row : r < n
  pub column : k < n
  pub matrix-long : n * n ≤ length a

-- n equations in n unknowns are there: `a` has their matrix, and `b` their right-hand sides
pub record Equations (n : ℕ) (a b : List Float) : Type 0 where
  pub matrix-long : n * n ≤ length a
  pub right-long : n ≤ length b
