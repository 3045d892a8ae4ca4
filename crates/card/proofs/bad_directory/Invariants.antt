-- `card::bad_directory` meets its contract: each section starts where the ones before it end, as the sum tells. Assumes nothing.
use mathlib.Core.Path.{◌≡◌}
use Prim.Native.Nat.{◌+◌, ◌*◌, ◌≤◌}
use Rattle.loops.specs.Loops.{any_up}
use Rattle.loops.proofs.Laws.{LeftAny}
use Rattle.card.specs.File.{start_of, misplaced_at}
use Rattle.card.proofs.bad_directory.Given as goal

abbrev pub invariant-loop-pair : goal.invariant-loop-pair
invariant-loop-pair l =
    (l.at ≤ 64 + l.pair-index * 4294967296) × (l.at ≡ start_of 5 l.file l.pair-index) ×
    LeftAny (misplaced_at 5 l.file) 5 l.pair-index (any_up 0 5 (misplaced_at 5 l.file))
