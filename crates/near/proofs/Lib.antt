-- Literals: the numbers of the code. Found: `any` over a range. Mixing: lists in another order. Sifting: what the steps and passes of the sort leave.
-- Listing: all chosen references, listed and sorted. Leading: the first three of them. Numbers: the order is strict.
-- Unique: the promises fix the list. Listed: the list that is defined meets them. Radius: its square is exact. Accepted: the call.
pub mod Literals
pub mod Found
pub mod Mixing
pub mod Sifting
pub mod Listing
pub mod Leading
pub mod Numbers
pub mod Unique
pub mod Listed
pub mod Radius
pub mod Accepted
