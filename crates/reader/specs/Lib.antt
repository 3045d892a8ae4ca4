-- `File` says what a card file holds, `Fitting` what the fit and the measurement make of it before it is read; `Text` is the text of a card file.
pub mod File
pub mod Fitting
pub mod Text
