-- `fit::check` meets its contract: the sentences, one after the other; past 2 the side is at most 1,024, and past 6 the references stand in the slice.
-- Assumes nothing.
use mathlib.Core.Path.{◌≡◌, sym, ◌∙◌}
use mathlib.Core.Bool.{Bool, false}
use Prim.Native.Nat.{ℕ, ◌≤◌}
use Rattle.sentences.proofs.Laws.{sentences}
use Rattle.limits.specs.Limits.{bad_side}
use Rattle.limits.proofs.Laws.{side_in}
use Rattle.references.proofs.Laws.{few-placed, placements}
use Rattle.fit.specs.Fit.{fit_sentences}
use borrow.Author.Rules.{rules}
use Rattle.fit.proofs.check.Goals as goal

most : (side : ℕ) (r : Bool) → r ≡ bad_side side → r ≡ false → side ≤ 1024
most side r e f = (side_in side (sym e ∙ f)).1

pub check_references-requires : goal.check_references-requires
check_references-requires c = (search (most), search rules)

pub invariant_of-references : goal.invariant_of-references
invariant_of-references c =
    record { stand = c.requires (few-placed _ _ _ c.in_ok-check_references.ensures) }

pub bad_side-requires : goal.bad_side-requires
unfolding fit_sentences
bad_side-requires c = search rules

pub returns-then-bad_side : goal.returns-then-bad_side
unfolding fit_sentences
returns-then-bad_side c = search (sentences)

pub short-requires : goal.short-requires
unfolding fit_sentences
short-requires c = search rules

pub returns-then-short : goal.returns-then-short
unfolding fit_sentences
returns-then-short c = search (sentences)

pub returns-in_err-check_references : goal.returns-in_err-check_references
unfolding fit_sentences
returns-in_err-check_references c = search (sentences, placements, c.in_err-check_references.ensures) depth 7

pub returns-then-bad_colours : goal.returns-then-bad_colours
unfolding fit_sentences
returns-then-bad_colours c = search (sentences, placements, c.in_ok-check_references.ensures) depth 7

pub returns : goal.returns
unfolding fit_sentences
returns c = search (sentences, placements, c.in_ok-check_references.ensures) depth 7
