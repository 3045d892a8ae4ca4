pub mod Score
pub mod Draw
pub mod Laws
