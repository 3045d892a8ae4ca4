-- Laws of the definitions, for callers: `Symbols` (the bits of a symbol), `Written` (unmasking twice, entry by entry), `Unmasking` (the same of two calls), `Decided` (the sign of a bit score), `ReadBack` (what is
-- drawn is what is read), `Accepted`, `Lengths` (what an accepted call knows), `Worked` (document 01's table). `Ready`: what the functions behind the calls ask.
pub mod Symbols
pub mod Written
pub mod Unmasking
pub mod Decided
pub mod ReadBack
pub mod Accepted
pub mod Lengths
pub mod Worked
mod Ready
