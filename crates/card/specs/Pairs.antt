-- A pair of the directory as the code reads it, and what it says of its section. Definitions only.
use Rattle.std.specs.Prelude.{Bool, not, List, [], ◌∷◌, ℕ, ◌/◌, ◌%◌, eqb}
use Rattle.card.specs.File.{offset_of, length_of}
use Rattle.card.specs.declared.Pair.{Pair}
use Rattle.card.specs.declared.Section.{Section}

abbrev pub pair_of : List ℕ → ℕ → Pair
pair_of s k = record { at = offset_of s k; bytes = length_of s k }

abbrev pub directory : List ℕ → List Pair
directory s = pair_of s 0 ∷ pair_of s 1 ∷ pair_of s 2 ∷ pair_of s 3 ∷ pair_of s 4 ∷ []

abbrev pub other_length : Pair → ℕ → Bool
other_length p bytes = not (eqb p.bytes bytes)

abbrev pub broken_record : Pair → ℕ → Bool
broken_record p bytes = not (eqb (p.bytes % bytes) 0)

abbrev pub section : Pair → ℕ → Section
section p bytes = record { at = p.at; count = p.bytes / bytes }
