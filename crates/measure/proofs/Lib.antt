-- `Lists`: laws of the lists that are picked. `Listing`: what a list in the scratch holds on the way. `Noting`: the columns, and the lists that
-- they give. `Sigmas`: a deviation whose distances are taken in place, and the record. `Accepted`: what a call knows past its sentences. `Literals`: the code's constants. `Observed`: a reference's colour, corrected in two steps.
-- `Remembering`: the slots of the nominal colours that were seen. `Bounds`, `Passes`: a measured record passes sentences 8 and 9, and no distance is a NaN.
pub mod Lists
mod Literals
mod Listing
mod Noting
mod Observed
mod Remembering
mod Sigmas
pub mod Accepted
mod Bounds
pub mod Passes
