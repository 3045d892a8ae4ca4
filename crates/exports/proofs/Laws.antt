-- What `near` leaves, as its own contract has it, is what its exports leave: a position that is given on is read back from its bits. Assumes nothing.
use mathlib.Core.Path.{◌≡◌, ap₂, ◌∙◌}
use mathlib.Core.List.{List}
use Prim.Native.Nat.{ℕ}
use lib.IntN.{ℤ}
use lib.Ieee.{Float}
use mir.Syntax.{w32}
use mir.Val.{SFits, to_z, of_z}
use mir.Facts.{to_z-of_z}
use Rattle.answers.specs.Answers as told
use Rattle.near.specs.Near as near
use Rattle.near.specs.declared.Query.{Query}
use Rattle.exports.specs.declared.replies.NumberAnswer.{NumberAnswer}
use Rattle.exports.specs.Replies.{number_answer}
use Rattle.exports.specs.Exits.{exit1, near_exit}

pub near-exit : {s : told.Said ℕ} {r : NumberAnswer} {l : List ℕ} (xy : List Float) (kept : List ℕ) (side : ℕ) (x y : ℤ) (q : Query) (out : List ℕ) → SFits w32 x → SFits w32 y →
    r ≡ number_answer s → near.final s l ≡ near.near_of (near.request xy kept side (to_z w32 (of_z w32 x)) (to_z w32 (of_z w32 y)) q out) →
    exit1 r l ≡ near_exit (near.near_of (near.request xy kept side x y q out))
unfolding near_exit
near-exit xy kept side x y q out fx fy p g = rw (p, ← (g ∙ ap₂ (λ (a b : ℤ). near.near_of (near.request xy kept side a b q out)) (to_z-of_z fx) (to_z-of_z fy)))
