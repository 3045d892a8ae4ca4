-- For callers: `Score` (a score's parts are the nearest and at most 1,310,720; of a score within 20 sentence 19 holds exactly where it is a NaN), `Batches` (batches add, in any order and split),
-- `Divisor` (the greatest common divisor, lowest terms and that no other fraction is so) and `Answers` (what each call gives by its sentences). `Worked` has examples that antt computes;
-- `Shapes` serves the proofs.
pub mod Score
mod Shapes
pub mod Batches
pub mod Divisor
pub mod Answers
mod Worked
