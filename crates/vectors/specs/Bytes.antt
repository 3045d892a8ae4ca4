-- A part of a list, and where a number first stands in a list. Definitions only.
use Rattle.std.specs.Prelude.{ℕ, suc, Bool, true, false, List, [], ◌∷◌, take, drop, ◌==◌}

-- the elements of a list from one place up to another
unfoldable pub slice : ℕ → ℕ → List ℕ → List ℕ
slice from to l = drop from (take to l)

-- the place of what is sought, where the first element is that or else the rest has it at a place
unfoldable pub index_after : Bool → ℕ → ℕ
index_after true k = 0
index_after false k = suc k

-- the first place of a number in a list, or the list's length
unfoldable pub index_of : ℕ → List ℕ → ℕ
unfolding index_after
index_of b [] = 0
index_of b (x ∷ l) = index_after (x == b) (index_of b l)
