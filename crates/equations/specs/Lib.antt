-- What the contracts of `equations` cite: which references are live, and one pass's equations.
pub mod Live
pub mod Once
