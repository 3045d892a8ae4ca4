pub mod Lists
pub mod Places
pub mod Next
pub mod Room
pub mod Never
