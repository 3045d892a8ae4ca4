-- `Laws`: what a sentence that is passed says, and how the logarithm of a hue count goes; for callers.
pub mod Laws
