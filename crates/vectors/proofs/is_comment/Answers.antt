-- `vectors::is_comment` meets its contract: `byte` gives the byte that the definition tests. Assumes nothing.
use Rattle.std.proofs.Common.{◌≡◌, ℕ, eqb, List, get_or, ap}
use Rattle.vectors.specs.Lines.{is_comment}
use Rattle.vectors.proofs.is_comment.Goals as goal

tested : (text : List ℕ) (at b : ℕ) → b ≡ get_or text at 0 → eqb b 35 ≡ is_comment text at
unfolding is_comment
tested text at b e = ap (λ (x : ℕ). eqb x 35) e

pub returns : goal.returns
returns c = search (tested)
