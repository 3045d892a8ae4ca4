-- For callers: `Sign`, what reading says of a score's sign; `Erasure`, that 0, 1 or 2 is read, and where 2 is.
pub mod Sign
pub mod Erasure
