pub mod Limits
pub mod Chroma
