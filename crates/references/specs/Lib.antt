-- What the contracts of `references` cite: references and their sentences.
pub mod References
