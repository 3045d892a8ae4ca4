-- `any_wild` meets its contract: what is left from i on says the same. Assumes nothing.
use Rattle.loops.proofs.Laws.{LeftAny}
use Rattle.observed.specs.Colours.{spot_colour, wild_colour_at, wild_colours}
use Rattle.observed.proofs.any_wild.Given as goal

abbrev pub invariant-loop-i : goal.invariant-loop-i
invariant-loop-i g l =
    LeftAny (wild_colour_at (spot_colour l.fn.model (g.S.Spots.spots l.seen))) (g.S.Spots.count l.seen) l.i (wild_colours (spot_colour l.fn.model (g.S.Spots.spots l.seen)) (g.S.Spots.count l.seen))
