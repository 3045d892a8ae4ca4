-- A list that a call writes: entry i becomes f i of what it was, d standing for what lies past the end. Definitions only.
use Rattle.std.specs.Prelude.{List, ℕ, get_or, set}
use Rattle.loops.specs.Loops.{for_up}

abbrev pub replace_at : {A : Type 0} → A → (ℕ → A → A) → ℕ → List A → List A
replace_at d f i l = set l i (f i (get_or l i d))

-- the first n entries, and no others
abbrev pub replaced : {A : Type 0} → A → ℕ → (ℕ → A → A) → List A → List A
replaced d n f l = for_up 0 n (replace_at d f) l
