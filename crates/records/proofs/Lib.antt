-- For callers: `Flattened`, the floats that a list of records stands for. `Limit` says what the two calls make of the floats.
pub mod Flattened
mod Limit
