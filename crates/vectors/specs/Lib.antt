pub mod Bytes
pub mod Lines
pub mod Words
pub mod Answers
pub mod Slices
