-- What the contracts of `measure` cite: `Measure`, the record and the calls; `Columns`, how the lists stand in the scratch; `Ready`, what functions ask.
pub mod Measure
pub mod Columns
pub mod Ready
