-- `Guarantee` is the read guarantee, in document 01's words; `Card` says what a card is, what is drawn and what is read, and `Within` what it is to lie within half a sigma of a drawn colour. `Table` has document 01's worked examples.
pub mod Within
pub mod Card
pub mod Guarantee
pub mod Erased
pub mod Table
