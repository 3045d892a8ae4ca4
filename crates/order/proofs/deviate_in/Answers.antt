-- `order::deviate_in` meets its contract: the distances of the values so far are written, and the others stand as they were. Assumes nothing.
use mathlib.Core.List.{List, map, ◌++◌}
use mathlib.Core.Path.{◌≡◌}
use Prim.Native.Nat.{ℕ, ◌+◌, ◌<◌}
use native.Mathlib.Omega.{arith}
use lib.Ieee.{Float, binary32, nan, sub}
use lib.ListN.{length, take, drop, set, get_or}
use Rattle.float.specs.Select.{abs}
use Rattle.order.specs.Deviation.{deviation}
use Rattle.std.proofs.lemmas.List.{get_or_default}
use Rattle.std.proofs.lemmas.List.Edits.{map_over_more}
use Rattle.order.proofs.deviate_in.Goals as goal

next : (m : Float) (xs ys : List Float) (i : ℕ) (r : Float) → i < length xs → length ys ≡ length xs → ys ≡ map (deviation m) (take i xs) ++ drop i xs → r ≡ abs (sub binary32 (get_or ys i nan) m)
    → set ys i r ≡ map (deviation m) (take (i + 1) xs) ++ drop (i + 1) xs
unfolding deviation
next m xs ys i r h l e d =
    rw d (map_over_more (deviation m) xs ys i (get_or ys i nan) h e (get_or_default ys i nan (get_or ys i nan) (omega arith)))

pub loop-x-preserved : goal.loop-x-preserved
loop-x-preserved c = search (next)
