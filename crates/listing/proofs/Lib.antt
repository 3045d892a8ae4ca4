pub mod Write
pub mod Digits
pub mod Room
pub mod Meaning
pub mod Within
