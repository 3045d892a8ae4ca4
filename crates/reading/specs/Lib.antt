pub mod Read
pub mod Erasure
