pub mod Accepted
pub mod Counts
pub mod Law
pub mod Marks
pub mod Shape
