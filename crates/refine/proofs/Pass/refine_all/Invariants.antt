-- `refine::Pass::refine_all` meets its contract: each score that was looked at is refined, and the others are as they were. Assumes nothing.
use Rattle.refine.proofs.Steps.{step_of, Stepped}
use Rattle.refine.proofs.Pass.refine_all.Given as goal

abbrev pub invariant-loop-i : goal.invariant-loop-i
invariant-loop-i l =
    Stepped (step_of l.self.scale.channel.noise l.self.scale.channel.palette.numbers.now l.self.scale.channel.palette.hues l.self.scale.levels l.self.card.modules.side l.self.card.modules.xs.now l.self.card.modules.ys.now l.self.card.colours.now l.self.squares.now l.fn.luma) l.initial.score-items l.i l.score-items
