-- What the contracts of `records` cite: the records as flat floats.
pub mod Records
