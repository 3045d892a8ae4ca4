-- `Margin` is the margin check, `Calls` the public calls with their answers.
pub mod Margin
pub mod Calls
