-- What the functions of `measure` ask of what they are handed. Definitions only.
use Rattle.std.specs.Prelude.{◌≡◌, T, List, ℕ, ◌*◌, ◌≤◌, length, get_or, Float}
use Rattle.std.specs.Float.{nan, binary32}
use Rattle.std.specs.Float.Ieee.{fits}

-- n references are not too many, and the scratch has four numbers for each
pub record Scratch (n : ℕ) (s : List Float) : Type 0 where
  pub most : n ≤ 16384
  pub four : length s ≡ 4 * n

-- the numbers are f32, which is known of a slice but not of a slice in a struct
abbrev pub Singles : List Float → Type 0
Singles xs = (i : ℕ) → T (fits binary32 (get_or xs i nan))
