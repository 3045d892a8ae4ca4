-- `Meter::new` meets its contract: a hue count has at most 32 colours, and each one's chroma noise is written at its place. Assumes nothing.
use Rattle.scores.proofs.Chroma.{sigmas_written}
use Rattle.scores.proofs.samples.Meter.new.Goals as goal

pub invariant_of-result : goal.invariant_of-result
invariant_of-result c = record { sigmas_are = sigmas_written _ _ _ _ _ c.palette_sigmas.ensures c.requires }
