-- What the contracts of `exports` cite beyond those of the calls: the structs that stand for a `Result`, what a call leaves, and layouts from C's numbers.
pub mod Exits
pub mod Layouts
pub mod Replies
