-- `Samples` is how scoring takes colours a block at a time, `Score` the luma and chroma scores, `Ready` what the functions ask.
pub mod Ready
pub mod Samples
pub mod Score
