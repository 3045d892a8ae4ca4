-- `vectors::hex` meets its contract: a loop of the definition's steps. Assumes nothing.
use Rattle.std.proofs.Common.{◌≡◌, length}
use Rattle.loops.proofs.Laws.{Left}
use Rattle.vectors.specs.Answers.{hex_at, hex_of}
use Rattle.vectors.proofs.hex.Given as goal

abbrev pub invariant-loop-k : goal.invariant-loop-k
invariant-loop-k l = (16 ≡ length l.digit-items) × Left (hex_at l.word) 16 l.k l.digit-items (hex_of l.word)
