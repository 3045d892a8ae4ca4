-- `Writer`: the bytes of a card's file. `Laws`: what this crate's contracts promise of them.
pub mod Writer
pub mod Laws
