-- Calls that take a layout, from the four numbers that C hands over. Definitions only.
use Rattle.std.specs.Prelude.{List, ℕ, ℤ, Float}
use Rattle.layout.specs.declared.Layout.{Layout}
use Rattle.illum.specs.declared.IlluminationModel.{IlluminationModel}
use Rattle.stats.specs.declared.ChannelStats.{ChannelStats}
use Rattle.demod.specs.Call.{Request, request}

abbrev pub layout : ℕ → ℕ → ℕ → ℕ → Layout
layout side hues size grid = record { side = side; hues = hues; size = size; grid = grid }

-- `score`
abbrev pub to_score : ℕ → ℕ → ℕ → ℕ → List ℤ → List ℤ → List Float → List ℕ → List ℕ → List Float → List Float → IlluminationModel → ChannelStats → List Float → List Float → List Float → Request
to_score side hues size grid = request (layout side hues size grid)
