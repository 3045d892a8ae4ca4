-- For callers: `Places`, positions that sentence 7 lets pass are f32 values; `Threes`, three numbers at an entry; `Held`, what a block's list holds; `Corrected`, the corrected colour of a spot, and
-- that the colours of spots are those of the modules and cells whose spots they are. `Literals` is the constants.
pub mod Places
pub mod Threes
pub mod Held
pub mod Corrected
mod Literals
