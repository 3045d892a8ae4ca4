-- `vectors::words_from` meets its contract: each word read leaves the rest of the run, and what is no word ends it. Assumes nothing.
use Rattle.std.proofs.Common.{◌∙◌, ap, rules}
use Rattle.std.proofs.lemmas.List.{set-get_or}
use Rattle.vectors.specs.Words.{words_of}
use Rattle.vectors.proofs.Rows.{begin_words, stop_words, turn_words, done_words}
use Rattle.vectors.proofs.words_from.Goals as goal

pub loop-k-init : goal.loop-k-init
loop-k-init c = search (begin_words, rules)

pub returns-in_default : goal.returns-in_default
returns-in_default c = ap (words_of c.loop-k.k c.loop-k.i) (set-get_or c.loop-k.row c.loop-k.k 0) ∙ search (stop_words, rules)

pub loop-k-preserved : goal.loop-k-preserved
loop-k-preserved c = search (turn_words, rules)

pub returns : goal.returns
returns c = search (done_words, rules)
