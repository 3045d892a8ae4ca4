-- What more than one function's proof uses, and the theorems on the definitions.
pub mod BothWays
pub mod Bounded
pub mod Hex
pub mod Linears
pub mod Numbers
pub mod Passed
pub mod Rises
mod Literals
mod Table
