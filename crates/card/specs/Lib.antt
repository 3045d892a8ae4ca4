pub mod Number
pub mod File
pub mod Pairs
pub mod Sections
pub mod Ready
