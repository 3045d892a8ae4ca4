-- For callers: `Alike`, what a pass's equations leave of a model. `Widths` serves the proofs: how many unknowns a channel has.
pub mod Alike
mod Widths
mod Marks
