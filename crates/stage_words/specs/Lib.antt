-- What the contracts of `stage_words` cite: records of the stage read from words and put as words, and a scratch.
pub mod Answered
pub mod Cards
pub mod Records
pub mod Scratch
