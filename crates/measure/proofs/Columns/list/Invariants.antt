-- `Columns::list` meets its contract: what is listed before turn i, with what is left from i on, is the whole. Assumes nothing.
use mathlib.Core.List.{◌++◌, map}
use Prim.Native.Nat.{◌+◌, ◌-◌}
use lib.ListN.{length, take}
use Rattle.measure.specs.Columns.{formed, picked_in}
use Rattle.measure.proofs.Listing.{Listing}
use Rattle.measure.proofs.Columns.list.Given as goal

abbrev pub invariant-loop-i : goal.invariant-loop-i
invariant-loop-i l =
    let t = l.self.numbers.now in
    let n = l.self.n in
    Listing n l.at l.lo l.hi l.form t (take l.k l.initial.room ++ map (formed l.form) (picked_in n l.at l.lo l.hi t)) (l.k + length (picked_in n l.at l.lo l.hi t)) l.i l.r l.room

abbrev pub decreases-loop-i : goal.decreases-loop-i
decreases-loop-i l = l.self.n - l.i
