-- `correct` meets its contract: what is left from j on gives the same, of the colours and of the count. Assumes nothing.
use Prim.Native.Nat.{◌+◌, ◌≤◌}
use Rattle.loops.specs.Loops.{raise}
use Rattle.loops.proofs.Laws.{Left}
use Rattle.observed.specs.Entries.{onwards}
use Rattle.observed.specs.Colours.{spot_colour, colour_at, write_colours, held_spot, held_from}
use Rattle.observed.proofs.correct.Given as goal

abbrev pub invariant-loop-j : goal.invariant-loop-j
invariant-loop-j g l =
    Left (colour_at (onwards (spot_colour l.model (g.S.Spots.spots l.seen)) l.from)) l.n l.j l.colours (write_colours (onwards (spot_colour l.model (g.S.Spots.spots l.seen)) l.from) l.n l.initial.colours)
    × (l.k ≤ l.from + l.j) × Left (raise (held_spot l.model (g.S.Spots.spots l.seen))) (l.from + l.n) (l.from + l.j) l.k (held_from l.model (g.S.Spots.spots l.seen) l.from l.n l.held)
