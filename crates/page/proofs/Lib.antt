-- For callers: `Bytes`, what an accepted call leaves, byte by byte. `Pieces`: pieces of one width one after the other; `Fields`: a number in ten columns; `Text`: the bytes of the page's text;
-- `Laid`: the code's steps give the text; `Passed` and `Accepted`: what the call knows past its sentences; `Whole`: what it leaves is the text.
mod Pieces
mod Fields
mod Text
mod Laid
mod Passed
mod Accepted
mod Whole
pub mod Bytes
