-- A row is as many numbers as there are terms, and they are the first of its slice. Assumes nothing.
use mathlib.Core.List.{List}
use mathlib.Core.Path.{◌≡◌}
use Prim.Native.Nat.{ℕ, ◌<◌, ◌≤◌}
use native.Mathlib.Omega.{arith}
use lib.Ieee.{Float, nan}
use lib.ListN.{length, get_or, take}
use lib.Seq.{get_or-take, length-take-le}

module _ (terms i : ℕ) (row : List Float) (h : terms ≤ length row) where
  pub inside : i < length (take terms row) → i < terms
  inside l = omega (arith, length-take-le terms row h)

  pub past : length (take terms row) ≤ i → terms ≤ i
  past l = omega (arith, length-take-le terms row h)

  pub number : i < length (take terms row) → get_or (take terms row) i nan ≡ get_or row i nan
  number l = get_or-take terms row i nan (inside l)
