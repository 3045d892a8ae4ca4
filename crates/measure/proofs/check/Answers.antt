-- `measure::check` meets its contract: the sentences, one after the other; past 2 the side is at most 1,024, past 5 the palette is long enough, and past 6 the references stand in the slice. Assumes nothing.
use mathlib.Core.Path.{◌≡◌, sym, ◌∙◌}
use mathlib.Core.Bool.{Bool, false}
use Prim.Native.Nat.{ℕ, ◌≤◌}
use Rattle.sentences.proofs.Laws.{sentences}
use Rattle.limits.specs.Limits.{bad_side}
use Rattle.limits.proofs.Laws.{side_in}
use Rattle.references.proofs.Laws.{few-placed, placements}
use Rattle.measure.specs.Measure.{sentences_for}
use Rattle.measure.proofs.Accepted.{palette_in}
use borrow.Author.Rules.{rules}
use Rattle.measure.proofs.check.Goals as goal

most : (side : ℕ) (r : Bool) → r ≡ bad_side side → r ≡ false → side ≤ 1024
most side r e f = (side_in side (sym e ∙ f)).1

pub check_references-requires : goal.check_references-requires
check_references-requires c = (search (most), search rules)

pub invariant_of-references : goal.invariant_of-references
invariant_of-references c =
    record { stand = c.requires (few-placed _ _ _ c.in_ok-check_references.ensures) }

pub invariant_of-wild_numbers : goal.invariant_of-wild_numbers
invariant_of-wild_numbers c = record { long = search (palette_in) }

pub bad_side-requires : goal.bad_side-requires
unfolding sentences_for
bad_side-requires c = search rules

pub returns-then-bad_side : goal.returns-then-bad_side
unfolding sentences_for
returns-then-bad_side c = search (sentences)

pub bad_hues-requires : goal.bad_hues-requires
unfolding sentences_for
bad_hues-requires c = search rules

pub returns-then-bad_hues : goal.returns-then-bad_hues
unfolding sentences_for
returns-then-bad_hues c = search (sentences) depth 9

pub too_short-requires : goal.too_short-requires
unfolding sentences_for
too_short-requires c = search rules

pub returns-then-too_short : goal.returns-then-too_short
unfolding sentences_for
returns-then-too_short c = search (sentences) depth 9

pub returns-in_err-check_references : goal.returns-in_err-check_references
unfolding sentences_for
returns-in_err-check_references c = search (sentences, placements, c.in_err-check_references.ensures) depth 9

pub returns-then-wild_numbers : goal.returns-then-wild_numbers
unfolding sentences_for
returns-then-wild_numbers c = search (sentences, placements, c.in_ok-check_references.ensures) depth 9

pub bad_model-requires : goal.bad_model-requires
unfolding sentences_for
bad_model-requires c = search rules

pub returns-then-bad_model : goal.returns-then-bad_model
unfolding sentences_for
returns-then-bad_model c = search (sentences, placements, c.in_ok-check_references.ensures) depth 9

pub returns-then-bad_corrected : goal.returns-then-bad_corrected
unfolding sentences_for
returns-then-bad_corrected c = search (sentences, placements, c.in_ok-check_references.ensures) depth 9

pub returns : goal.returns
unfolding sentences_for
returns c = search (sentences, placements, c.in_ok-check_references.ensures) depth 9
