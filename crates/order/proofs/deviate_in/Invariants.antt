-- `order::deviate_in` meets its contract: the distances of the values so far are written, and the others stand as they were. Assumes nothing.
use mathlib.Core.List.{map, ◌++◌}
use mathlib.Core.Path.{◌≡◌}
use lib.ListN.{take, drop}
use Rattle.order.specs.Deviation.{deviation}
use Rattle.order.proofs.deviate_in.Given as goal

abbrev pub invariant-loop-x : goal.invariant-loop-x
invariant-loop-x l = l.values ≡ map (deviation l.m) (take l.x-index l.initial.values) ++ drop l.x-index l.initial.values
