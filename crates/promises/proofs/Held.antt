-- The record of f32 values as the proofs of `stats` have it, and back. Assumes nothing.
use Rattle.stats.specs.declared.ChannelStats.{ChannelStats}
use Rattle.stats.proofs.Range.{Held}
use Rattle.promises.specs.Noise.{HeldAsSingles}

pub held : (n : ChannelStats) → HeldAsSingles n → Held n
held n h = record { l0 = h.l0; l1 = h.l1; sigma-l = h.sigma-l; sigma-ab = h.sigma-ab; sigma-ab-dark = h.sigma-ab-dark; sigma-ab-light = h.sigma-ab-light }

pub singles : (n : ChannelStats) → Held n → HeldAsSingles n
singles n h = record { l0 = h.l0; l1 = h.l1; sigma-l = h.sigma-l; sigma-ab = h.sigma-ab; sigma-ab-dark = h.sigma-ab-dark; sigma-ab-light = h.sigma-ab-light }
