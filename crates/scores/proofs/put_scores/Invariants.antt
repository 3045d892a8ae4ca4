-- `put_scores` meets its contract: what is left from b on gives the same. Assumes nothing.
use Rattle.loops.proofs.Laws.{Left}
use Rattle.scores.specs.Score.{put_score, put_scores}
use Rattle.scores.proofs.put_scores.Given as goal

abbrev pub invariant-loop-b : goal.invariant-loop-b
invariant-loop-b l = Left (put_score l.bits l.weight l.at) l.n l.b l.chroma (put_scores l.bits l.weight l.n l.at l.initial.chroma)
