-- The layout of a card by the parts that its chroma scores are worked out by. Definitions only.
use Rattle.std.specs.Prelude.{ℕ}
use Rattle.layout.specs.declared.Layout.{Layout}

abbrev pub layout_of : ℕ → ℕ → ℕ → ℕ → Layout
layout_of side hues size grid = record { side = side; hues = hues; size = size; grid = grid }
