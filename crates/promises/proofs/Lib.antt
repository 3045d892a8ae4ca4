-- `Held`: a record's figures are f32 values, in this crate's words and in those of the proofs of `stats`. `Neighbours`: how the symbols of neighbouring hues differ. `Formula`: the sRGB curve is the
-- standard's. `OnlyNearest`: one float is the nearest. `Identity`: what the model of `identity` makes of a colour. `Systems`: what `solve` writes. `Window`: refinement's window in
-- coordinates. `Marks`: which colours have a mark, and how many. `Premises`: which of the read guarantee's premises hold by themselves. `Season`: refined scores are within 20, or a NaN.
mod Held
mod Theorems
mod Neighbours
mod Formula
mod OnlyNearest
mod Identity
mod Systems
mod Window
mod Marks
mod Premises
mod Season
