-- What the functions that correct colours ask of what they are handed. Definitions only.
use Rattle.std.specs.Prelude.{◌≡◌, List, ◌*◌, ◌≤◌, ℤ, length, Float}
use Rattle.observed.specs.Colours.{Exact}

-- the modules' positions run in pairs and are f32 values, and each module has a raw colour
pub record Sampled (xs ys : List ℤ) (raw : List Float) : Type 0 where
  pub pairs : length xs ≡ length ys
  pub xs_exact : Exact xs (length xs)
  pub ys_exact : Exact ys (length xs)
  pub raw-three : 3 * length xs ≤ length raw
