-- For callers: `Written`, what is left, element by element; `Chroma`, the likelihoods and bit scores of an entry; `Apart`, the passes over the modules. `Blocks` is of colours a block at a time, `Parts` of scores part by part.
pub mod Written
pub mod Chroma
pub mod Apart
mod Blocks
mod Parts
