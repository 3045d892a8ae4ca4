-- `put_scores` meets its contract: what is left from b on gives the same. Assumes nothing.
use mathlib.Core.Path.{◌≡◌, ap, ◌∙◌}
use mathlib.Core.List.{List}
use Prim.Native.Nat.{ℕ, ◌+◌, ◌≤◌, ◌<◌}
use borrow.Author.Rules.{rules}
use lib.ListN.{length, get_or, set, take}
use lib.Ieee.{Float, nan}
use Rattle.loops.proofs.Laws.{turn_to, done, loops}
use Rattle.scores.specs.Score.{chroma_score, put_score}
use Rattle.scores.proofs.Parts.{front_in, front_past, front_read}
use Rattle.scores.proofs.put_scores.Goals as goal

wrote : (bits : List Float) (n b : ℕ) (weight : Float) (at : ℕ) (chroma : List Float) (v : Float) → n ≤ length bits → b < length (take n bits) → v ≡ chroma_score (get_or (take n bits) b nan) weight → set chroma (at + b) v ≡ put_score bits weight at b chroma
unfolding put_score
wrote bits n b weight at chroma v l h e = ap (set chroma (at + b)) (e ∙ ap (λ (x : Float). chroma_score x weight) (front_read n bits b l nan h))

pub loop-b-init : goal.loop-b-init
loop-b-init c = search (loops, rules)

pub loop-b-preserved : goal.loop-b-preserved
loop-b-preserved c = turn_to c.loop-b.invariant (front_in _ _ _ c.requires.0 (search rules)) (wrote _ _ _ _ _ _ _ c.requires.0 (search rules) (search rules))

pub returns : goal.returns
returns c = done c.loop-b.invariant (front_past _ _ _ c.requires.0 (search rules))
