-- Bytes written into a slice of a fixed length, each at the next place; one that has no room is left out. Definitions only.
use Rattle.std.specs.Prelude.{cond, List, [], ◌∷◌, ◌++◌, ℕ, zero, suc, ◌+◌, ltb, length, set}

-- a slice and the place to write next
pub record Text : Type 0 where
  pub at : ℕ
  pub out : List ℕ

abbrev pub text : ℕ → List ℕ → Text
text at out = record { at = at; out = out }

-- one byte
unfoldable pub byte : ℕ → Text → Text
byte b t = cond (ltb t.at (length t.out)) (text (t.at + 1) (set t.out t.at b)) t

-- one byte after the other
unfoldable pub written : List ℕ → Text → Text
written [] t = t
written (b ∷ bs) t = written bs (byte b t)

-- the pieces of a line one after the other
unfoldable pub row : List (List ℕ) → List ℕ
row [] = []
row (p ∷ ps) = p ++ row ps

-- k lines, the first of them line i
unfoldable pub rows : (ℕ → List ℕ) → ℕ → ℕ → List ℕ
rows f zero i = []
rows f (suc k) i = f i ++ rows f k (suc i)

-- the lines of all numbers below n
abbrev pub lines_below : (ℕ → List ℕ) → ℕ → List ℕ
lines_below f n = rows f n 0
