-- `page::Sheet::check` meets its contract: the sentences in their order, one return for each; what a later test asks was shown by those before it. Assumes nothing.
use Prim.Native.Nat.{ℕ, ◌≤◌, ◌<◌}
use mathlib.Core.Path.{◌≡◌}
use mathlib.Core.List.{List, [], ◌∷◌}
use borrow.Author.Tests.{lt-ltb, le-ltb}
use lib.Dec.{ltb}
use Rattle.sentences.specs.Sentences.{Sentence, ◌when◌, refusal}
use Rattle.sentences.proofs.Laws.{sentences}
use Rattle.answers.proofs.Answers.{number_on, numbered}
use Rattle.layout.proofs.Laws.{layouts}
use Rattle.page.specs.Calls.{sentences_of}
use Rattle.page.proofs.Passed.{side-most, in_pairs}
use Rattle.page.proofs.Sheet.check.Goals as goal

wide : (side : ℕ) (ss : List Sentence) → 40 < side → 14 ≡ refusal ((14 when ltb 40 side) ∷ ss)
unfolding refusal
wide side ss h = rw (lt-ltb 40 side h)

narrow : (side : ℕ) → side ≤ 40 → 0 ≡ refusal ((14 when ltb 40 side) ∷ [])
unfolding refusal
narrow side h = rw (le-ltb 40 side h)

pub returns-then-bad_side : goal.returns-then-bad_side
unfolding sentences_of
returns-then-bad_side c = search (sentences, layouts) depth 8

pub short_slices-requires : goal.short_slices-requires
short_slices-requires c = search (side-most)

pub returns-then-short_slices : goal.returns-then-short_slices
unfolding sentences_of
returns-then-short_slices c = search (sentences, layouts) depth 8

pub returns-then-bad_tally : goal.returns-then-bad_tally
unfolding sentences_of
returns-then-bad_tally c = search (sentences, layouts) depth 8

pub check_modules-requires : goal.check_modules-requires
check_modules-requires c = (search (side-most), search (in_pairs))

pub returns-in_err-check_modules : goal.returns-in_err-check_modules
unfolding sentences_of
returns-in_err-check_modules c = number_on _ _ c.from_residual.ensures _ (search (sentences, layouts, numbered, c.in_err-check_modules.ensures) depth 8)

pub returns-then-bad_terms : goal.returns-then-bad_terms
unfolding sentences_of
returns-then-bad_terms c = search (sentences, layouts, c.in_ok-check_modules.ensures) depth 8

pub returns-then-self-gt-WIDEST : goal.returns-then-self-gt-WIDEST
unfolding sentences_of
returns-then-self-gt-WIDEST c = search (sentences, layouts, wide, c.in_ok-check_modules.ensures) depth 8

pub returns : goal.returns
unfolding sentences_of
returns c = search (sentences, layouts, narrow, c.in_ok-check_modules.ensures) depth 8
