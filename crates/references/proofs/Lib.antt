-- For callers: `Laws`, what holds past the sentences 5 and 6; `Sought`, what `any` of a range says.
pub mod Laws
pub mod Sought
mod Literals
