-- `Guarantee` proves the read guarantee, which the contract of `bits::read_bits` holds. Each lemma is a law of its own: `Range` (the numbers of a record inside the margin), `Luma` (`luma_llr` does not rise
-- with L), `Sigma` (`sigma_ab_at` is from 0.5 to 2,000), `Half` (half a sigma), `Weight` (0.9931 or more), `Score` (a luma score above 8 in magnitude, at 13 at least 12), `Hue` and `Leads`
-- (the own hue above every other; chroma scores never zero), `Scored` (where scoring leaves the chroma scores), `Sample` (all of these for one sample), `Known` (what the calls say), `ReadLuma`,
-- `ReadChroma` (bit by bit), `Erased` (no score reads as 2). `Satisfiable` has cards that meet the premises, `Worked` document 01's worked examples.
pub mod Range
pub mod Luma
pub mod Sigma
pub mod Half
pub mod Weight
pub mod Score
pub mod Hue
pub mod Leads
pub mod Scored
pub mod Sample
pub mod Known
pub mod ReadLuma
pub mod ReadChroma
pub mod Guarantee
pub mod Erased
pub mod Satisfiable
pub mod Worked
