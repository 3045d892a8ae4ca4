-- For callers: `Accepted`, what an accepted call knows; `Outcome`, what the two answers say; `Range`, luma scores within ±20. `Wild` is sentence 12 of spots.
pub mod Accepted
pub mod Outcome
pub mod Range
mod Wild
