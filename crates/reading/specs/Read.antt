-- Reading: a score becomes a bit. Definitions only.
use Rattle.std.specs.Prelude.{false, cond, List, [], ◌∷◌, ℕ, ltb, pos, length, get_or, Float}
use Rattle.std.specs.Float.{nan, fin}
use Rattle.std.specs.Float.Ieee.{lt}
use Rattle.sentences.specs.Sentences.{Sentence, ◌when◌}
use Rattle.answers.specs.Answers.{Ended, written_or}
use Rattle.lists.specs.Lists.{replaced}

-- "a score below zero is 1", one above it is 0, and "A score that is zero or NaN reads as 2" (document 02, P2), which is no bit
unfoldable pub reads : Float → ℕ
reads v = cond (lt v (fin false 0 (pos 0))) 1 (cond (lt (fin false 0 (pos 0)) v) 0 2)

abbrev pub read_score_at : List Float → ℕ → ℕ → ℕ
read_score_at scores i b = reads (get_or scores i nan)

-- one number a score
abbrev pub read_list : List Float → List ℕ → List ℕ
read_list scores bits = replaced 0 (length scores) (read_score_at scores) bits

unfoldable pub read_sentences : List Float → List ℕ → List Sentence
read_sentences scores bits = (5 when ltb (length bits) (length scores)) ∷ []

unfoldable pub read_list_of : List Float → List ℕ → Ended ℕ
read_list_of scores bits = written_or (read_sentences scores bits) bits (read_list scores bits)
