-- `vectors::put` meets its contract: its test is that of the definition. Assumes nothing.
use Rattle.std.proofs.Common.{◌≡◌, ℕ, ◌+◌, ◌<◌, ◌≤◌, List, length, set, le-ltb, lt-ltb}
use Rattle.vectors.specs.Answers.{placed, put}
use Rattle.vectors.proofs.put.Goals as goal

module _ (row : List ℕ) (at w : ℕ) where
  room : at < length row → placed (at + 1) (set row at w) ≡ put w (placed at row)
  unfolding put
  room h = cc (lt-ltb at (length row) h)

  full : length row ≤ at → placed at row ≡ put w (placed at row)
  unfolding put
  full h = cc (le-ltb at (length row) h)

pub returns-then-at-row : goal.returns-then-at-row
returns-then-at-row c = search (room)

pub returns : goal.returns
returns c = search (full)
