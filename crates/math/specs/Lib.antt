pub mod Gauss
pub mod Normal
pub mod Examples
pub mod Ready
