-- Which references are live: the Rust's `active`, as 1 for true and 0 for false. Definitions only.
use Rattle.std.specs.Prelude.{Bool, false, List, ℕ, pos, get_or, replicate, Float}
use Rattle.std.specs.Float.{nan, fin}
use Rattle.std.specs.Float.Ieee.{eq}
use Rattle.loops.specs.Loops.{count_up}

abbrev pub live_mark : Float
live_mark = fin false 1 (pos 0)

abbrev pub dropped_mark : Float
dropped_mark = fin false 0 (pos 0)

abbrev pub live_marks : ℕ → List Float
live_marks n = replicate n live_mark

unfoldable pub is_live_mark : Float → Bool
is_live_mark mark = eq mark live_mark

abbrev pub is_live : List Float → ℕ → Bool
is_live live i = is_live_mark (get_or live i nan)

-- how many of the first n are live
abbrev pub live_count : List Float → ℕ → ℕ
live_count live n = count_up 0 n (is_live live)
