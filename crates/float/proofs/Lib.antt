-- For callers, laws over the definitions of specs/: `Select` (abs, max, min, clamp, and the least of a loop's terms), `Single` (f64 to f32: kept,
-- monotone, nearest), `Nearest` (the roots are the nearest floats, and the only ones), `Roots` (they keep the order; the sign), `Above` (a square
-- root compared without taking it) and `NoNan` (`x.is_nan()`). The others serve the functions' proofs.
pub mod Select
pub mod Single
pub mod Nearest
pub mod Roots
pub mod Above
pub mod NoNan
mod Cubes
mod Iroot
mod Lead
mod Rounding
mod Signs
