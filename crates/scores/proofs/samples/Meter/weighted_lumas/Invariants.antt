-- `Meter::weighted_lumas` meets its contract: what is left from the block's first module on gives the same, and a block makes the turns of its modules. Assumes nothing.
use Rattle.loops.proofs.Laws.{Left}
use Rattle.color.specs.Palette.{linear_at}
use Rattle.scores.specs.Score.{luma_at, write_lumas}
use Rattle.scores.proofs.samples.Meter.weighted_lumas.Given as goal

abbrev pub invariant-loop-from : goal.invariant-loop-from
invariant-loop-from l =
    let c = l.self.channel in
    Left (luma_at c.noise c.palette.numbers.now c.palette.hues (linear_at l.colours.numbers.now)) l.colours.n l.from l.luma (write_lumas c.noise c.palette.numbers.now c.palette.hues (linear_at l.colours.numbers.now) l.colours.n l.initial.luma)
