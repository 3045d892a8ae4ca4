-- What is searched: the order of the references as they are seen from its centre, and those that its query chooses. Definitions only.
use Rattle.std.specs.Prelude.{ℕ, Bool, Float}
use Rattle.near.specs.declared.search.Search.{Search}
use Rattle.near.specs.Near as near

abbrev pub distance : Search → ℕ → Float
distance s i = near.distance s.xy.now s.cx s.cy i

abbrev pub before : Search → ℕ → ℕ → Bool
before s = near.before s.xy.now s.cx s.cy

abbrev pub chosen : Search → ℕ → Bool
chosen s = near.chosen s.query s.xy.now s.kept.now s.cx s.cy
