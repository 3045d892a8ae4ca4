-- `Written`: the file of a card is opened and read as the card. `Rewritten`: the card of an opened file is written as the file. `Case`: document 01's case.
mod Written
mod Rewritten
mod Case
