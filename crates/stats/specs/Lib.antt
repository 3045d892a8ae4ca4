-- `Noise` is what the methods compute, `Calls` the public calls with their refusals.
pub mod Arithmetic
pub mod Noise
pub mod Calls
