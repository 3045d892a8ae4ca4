-- What the functions behind the call ask of what they are handed. Definitions only.
use Rattle.std.specs.Prelude.{List, ℕ, ◌*◌, ◌≤◌, ◌<◌, length, Float}
use Rattle.color.specs.Palette.{palette_len}
use Rattle.refine.specs.Refine.{squares}

-- the slice holds the (side + 12)² squares of a side that sentence 2 lets pass
pub record FullGrid (side : ℕ) (grid : List Float) : Type 0 where
  pub side-most : side ≤ 1024
  pub long : squares side ≤ length grid

-- and `home` is one of its squares
pub record SquareIn (side : ℕ) (grid : List Float) (home : ℕ) : Type 0 where
  pub side-most : side ≤ 1024
  pub long : squares side ≤ length grid
  pub inside : home < squares side

-- the colours and the scores of m modules are there, and so is the palette of the hues
pub record Listed (m hues : ℕ) (colours luma palette : List Float) : Type 0 where
  pub colours-long : 3 * m ≤ length colours
  pub luma-long : m ≤ length luma
  pub palette-long : palette_len hues ≤ length palette
