-- The test of `measure::wild_corrected` is that of one reference, as it was observed. Assumes nothing.
use mathlib.Core.Path.{ap, ◌∙◌}
use Rattle.color.specs.Palette.{wild_linear}
use Rattle.illum.specs.declared.Spot.{Spot}
use Rattle.illum.specs.Correct.{corrected}
use Rattle.measure.specs.Measure.{corrected_at, wild_corrected_at}
use Rattle.measure.proofs.fn.wild_corrected.any.Goals as goal

pub returns : goal.returns
unfolding corrected_at wild_corrected_at
returns c = c.breaks.ensures ∙ ap (λ (s : Spot). wild_linear (corrected c.captures.corrector.model.now s.x s.y s.colour).colour) c.seen.ensures
