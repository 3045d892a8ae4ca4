-- What the contracts cite: residuals and rejection.
pub mod Residual
