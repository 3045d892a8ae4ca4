-- `Behind`: what stands behind the words that are taken. `Widths`: a surface has at most nine coefficients.
mod Behind
pub mod Widths
