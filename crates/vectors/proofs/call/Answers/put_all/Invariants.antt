-- `Answers::put_all` meets its contract: what is left of the loop puts the rest. Assumes nothing.
use Rattle.std.proofs.Common.{length}
use Rattle.loops.proofs.Laws.{Left}
use Rattle.vectors.specs.Answers.{placed}
use Rattle.vectors.specs.Slices.{store_at, put_all}
use Rattle.vectors.proofs.call.Answers.put_all.Given as goal

abbrev pub invariant-loop-v : goal.invariant-loop-v
invariant-loop-v g l =
    (d : _) → Left (store_at g.T.Value.word_of d l.values) (length l.values) l.v-index (placed l.self.count l.self.words)
    (put_all g.T.Value.word_of d l.values (placed l.initial.self.count l.initial.self.words))
