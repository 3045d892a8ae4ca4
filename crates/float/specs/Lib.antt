-- What the contracts of `float` cite: `Select` (abs, max, min, clamp), `Single` (f64 to f32), `Root` (the roots) and `Parts` (a word of their
-- helpers). `Nearest` says what it is to be the nearest float to a root, and `Examples` has worked examples.
pub mod Select
pub mod Single
pub mod Root
pub mod Nearest
pub mod Parts
pub mod Examples
