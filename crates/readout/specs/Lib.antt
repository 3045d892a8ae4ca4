-- `Sheet` says what a card is read from, and how much there is of it in a card file; `Reading` what is listed of it.
pub mod Sheet
pub mod Decoded
pub mod Reading
