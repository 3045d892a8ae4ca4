-- `Score` is what one score counts for, `Batch` a card's and a batch's totals and their limits, `Calls` the calls that add, with their refusals,
-- `LowestTerms` the mean.
pub mod Score
pub mod Batch
pub mod Calls
pub mod LowestTerms
