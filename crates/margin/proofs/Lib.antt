-- For callers: `Clear`, what the margin check says clause by clause; `Wider`, that yes at 13 is yes at 9. `Literals` are the constants.
pub mod Clear
pub mod Wider
mod Every
mod Literals
