-- What more than one function's proof uses.
pub mod Laws
