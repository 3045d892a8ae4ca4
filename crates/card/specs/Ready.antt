-- What the functions that decode a section's numbers ask of where it lies and of the room that they are handed. Definitions only.
use Rattle.std.specs.Prelude.{List, ℕ, ◌*◌, ◌^◌, ◌<◌, length}

-- the section starts as a u32 of the directory can say, and `out` holds no more than three numbers for each record that one can count
pub record Room {A : Type 0} (at : ℕ) (out : List A) : Type 0 where
  pub at_small : at < 2 ^ 32
  pub out_small : length out < 3 * 2 ^ 32
