-- The lines of a list and the names of its records, as the format has them. Definitions only.
use Rattle.std.specs.Prelude.{ℕ, ◌+◌, ◌-◌, Bool, cond, List, length, take, drop, ◌==◌, nat_lt, slice_index}
use Rattle.vectors.specs.Bytes.{slice, index_of}

-- the byte at a place, and 0 past the end
abbrev pub byte_at : List ℕ → ℕ → ℕ
byte_at text at = slice_index text at

-- the place of the first line feed from `at` on, or the end of the text
unfoldable pub line_end : List ℕ → ℕ → ℕ
line_end text at = at + index_of 10 (slice at (length text) text)

-- the place past the line that `at` stands in
unfoldable pub next_line : List ℕ → ℕ → ℕ
next_line text at = cond (nat_lt at (length text)) (line_end text at + 1) at

-- a comment begins with `#`
unfoldable pub is_comment : List ℕ → ℕ → Bool
is_comment text at = byte_at text at == 35

-- the place of the first space of the line from `at` on, or the end of the line
unfoldable pub name_end : List ℕ → ℕ → ℕ
name_end text at = at + index_of 32 (slice at (line_end text at) text)

-- the name of the record that begins at `at`
unfoldable pub name_of : List ℕ → ℕ → List ℕ
name_of text at = take (name_end text at - at) (drop at text)
