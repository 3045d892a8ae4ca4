pub mod Lists
pub mod Next
pub mod Held
pub mod Room
pub mod Listed
