-- For callers: `Listed`, the residuals one by one.
pub mod Listed
mod Literals
