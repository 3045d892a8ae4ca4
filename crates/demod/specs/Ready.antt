-- What holds of a card where its sentences are passed. Definitions only.
use Rattle.std.specs.Prelude.{◌≡◌, List, ℕ, ◌*◌, ◌≤◌, ℤ, length, Float}
use Rattle.limits.specs.Chroma.{ring_modules, chroma_length}
use Rattle.layout.specs.declared.Layout.{Layout}
use Rattle.layout.specs.Groups.{Shaped, Positions}
use Rattle.color.specs.Palette.{palette_len}

-- past 7 its modules and cells stand in their places, and each has a raw colour
pub record Seen (l : Layout) (xs ys : List ℤ) (raw : List Float) (cxs cys : List ℕ) (craw : List Float) : Type 0 where
  pub shaped : Shaped l
  pub placed : Positions l.side l.grid xs ys
  pub grid-most : l.grid ≤ length xs
  pub most : length xs ≤ 1048576
  pub raw-three : 3 * length xs ≤ length raw
  pub cells-pair : length cxs ≡ length cys
  pub cells-most : length cxs ≤ 1048576
  pub craw-three : 3 * length cxs ≤ length craw

-- past all of them it can be scored: the palette has its colours, and there is room for the scores
pub record Scorable (l : Layout) (xs ys : List ℤ) (raw : List Float) (cxs cys : List ℕ) (craw palette luma colours chroma : List Float) : Type 0 where
  pub seen : Seen l xs ys raw cxs cys craw
  pub palette-long : palette_len l.hues ≤ length palette
  pub luma-long : length xs ≤ length luma
  pub colours-three : 3 * length xs ≤ length colours
  pub chroma-long : chroma_length l.hues (length cxs) (ring_modules (length xs) l.grid) l.size ≤ length chroma
