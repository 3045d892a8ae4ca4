-- `Reading` says what `read_bits` leaves, and what that has to do with the read guarantee.
pub mod Reading
