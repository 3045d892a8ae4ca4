-- `modulate::Source::check` meets its contract: each sentence that fails is passed, and what the last group asks was shown by the tests before it. Assumes nothing.
use mathlib.Core.Path.{◌≡◌, refl, sym, ◌∙◌}
use mathlib.Core.Bool.{Bool, false}
use mathlib.Core.List.{List}
use Prim.Native.Nat.{ℕ}
use lib.IntN.{ℤ}
use Rattle.sentences.proofs.Laws.{sentences}
use Rattle.layout.specs.declared.Layout.{Layout}
use Rattle.layout.specs.Groups.{Paired}
use Rattle.answers.proofs.Answers.{ahead_on}
use Rattle.layout.proofs.Laws.{shape-sound, shaped, layouts}
use Rattle.modulate.specs.Draw.{bad_draw_lengths, draw_sentences}
use Rattle.modulate.proofs.Lengths.{draw_lengths}
use Rattle.modulate.proofs.Source.check.Goals as goal

paired : (bits : List ℕ) (l : Layout) (xs ys : List ℤ) (cxs cys levels hues : List ℕ) (r : Bool) → r ≡ bad_draw_lengths bits l xs ys cxs cys levels hues → r ≡ false → Paired xs ys cxs cys
paired bits l xs ys cxs cys levels hues r e f = (draw_lengths bits l xs ys cxs cys levels hues (sym e ∙ f)).pairs

pub check_placement-requires : goal.check_placement-requires
check_placement-requires c = (shaped _ 0 c.in_ok-check_shape.ensures refl, search (paired))

pub returns-in_err-check_shape : goal.returns-in_err-check_shape
unfolding draw_sentences
returns-in_err-check_shape c = search (ahead_on, shape-sound, c.in_err-check_shape.ensures)

pub returns-then-bad_lengths : goal.returns-then-bad_lengths
unfolding draw_sentences
returns-then-bad_lengths c = search (sentences, layouts, c.in_ok-check_shape.ensures) depth 5

pub returns : goal.returns
unfolding draw_sentences
returns c = search (sentences, layouts, c.in_ok-check_shape.ensures) depth 5
