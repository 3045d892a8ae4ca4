-- For callers: `Placed`, what sentence 7 lets pass; `Last`, what it is to be the last entry of a position; `Squares`, that squares of different positions differ. `Signed`: positions as machine words.
pub mod Placed
pub mod Last
pub mod Squares
mod Signed
