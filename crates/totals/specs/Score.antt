-- One refined luma score: its magnitude in whole 65,536ths, whether it is undecided, whether it is under 12, and sentence 19. Definitions only.
use Rattle.std.specs.Prelude.{Bool, not, ℕ, ◌^◌, eqb, Float}
use Rattle.std.specs.Float.{binary32}
use Rattle.std.specs.Float.Ieee.{lt, le}
use Rattle.std.specs.Float.Ieee.Nearest.{closest}
use Rattle.floatlaws.specs.Value.{mag}
use Rattle.float.specs.Select.{abs}
use Rattle.color.specs.Color.{whole}
use Rattle.reading.specs.Read.{reads}

-- 19: "a score is NaN or above 20 in magnitude"
unfoldable pub unfit : Float → Bool
unfit v = not (le (abs v) (whole 20))

-- it reads as no bit: a zero of either sign, or a NaN
unfoldable pub undecided : Float → Bool
undecided v = eqb (reads v) 2

-- "under 12 after refinement"
unfoldable pub under : Float → Bool
under v = lt (abs v) (whole 12)

-- |v| in units of 2 ^ -149, of which every f32 is a whole multiple
abbrev pub size : Float → ℕ
size v = mag binary32 v

-- the units of a 65,536th. (Shut, since it is a number of more digits than `omega` takes.)
unfoldable pub per_part : ℕ
per_part = 2 ^ 133

-- "whole 65,536ths, ties to even": rounded as every result is
unfoldable pub parts_of : Float → ℕ
parts_of v = closest (size v) per_part
