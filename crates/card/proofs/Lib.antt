pub mod FivePairs
pub mod Filled
pub mod Signed
pub mod Accepted
pub mod Worked
