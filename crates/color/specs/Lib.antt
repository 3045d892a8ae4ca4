-- What the contracts of `color` cite, and what it is to be nearest to the sRGB curve.
pub mod Color
pub mod Palette
pub mod Srgb
