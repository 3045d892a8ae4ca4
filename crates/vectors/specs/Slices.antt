-- A list in a row: its length, and then its elements, a word each. Definitions only.
use Rattle.std.specs.Prelude.{ℕ, List, length, drop, slice_index, slice_index_or}
use Rattle.loops.specs.Loops.{for_up}
use Rattle.vectors.specs.Answers.{Placed, put}

-- element k of a list as the next word of a row
unfoldable pub store_at : {A : Type 0} → (A → ℕ) → A → List A → ℕ → Placed → Placed
store_at word d values k p = put (word (slice_index_or values k d)) p

-- the elements of a list put into a row, one after the other
abbrev pub put_all : {A : Type 0} → (A → ℕ) → A → List A → Placed → Placed
put_all word d values p = for_up 0 (length values) (store_at word d values) p

-- a list put into a row as a slice
abbrev pub stored : {A : Type 0} → (A → ℕ) → A → List A → Placed → Placed
stored word d values p = for_up 0 (length values) (store_at word d values) (put (length values) p)

-- what stands in a row behind the list that it begins with, its length first
abbrev pub past_list : List ℕ → List ℕ
past_list row = drop (slice_index row 0) (drop 1 row)
