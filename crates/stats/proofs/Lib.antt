-- For callers: `Passed`, what an accepted call knows; `Given`, that `palette_sigmas` writes what `nearest_by` asks for; `Range`, a good record and its `luma_llr` within ±20; `Reliable`,
-- `reliability` from 0 to 1; `Plus`, numbers not below zero; `Tests`, tests whose parts must all hold; `Worked`, document 01's examples. `Literals` are the constants.
pub mod Passed
pub mod Given
pub mod Range
pub mod Reliable
pub mod Worked
pub mod Plus
mod Literals
pub mod Tests
