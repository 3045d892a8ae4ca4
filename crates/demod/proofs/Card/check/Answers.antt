-- `check` meets its contract: the sentences in their order, one return for each; what a later test asks was shown by those before it. Assumes nothing.
use mathlib.Core.Path.{◌≡◌, refl, sym, ◌∙◌}
use mathlib.Core.Bool.{Bool, false}
use mathlib.Core.List.{List}
use Prim.Native.Nat.{ℕ, ◌*◌, ◌≤◌}
use lib.IntN.{ℤ}
use lib.ListN.{length}
use lib.Ieee.{Float}
use Rattle.sentences.specs.Sentences.{refusal}
use Rattle.sentences.proofs.Laws.{sentences}
use Rattle.layout.specs.declared.Layout.{Layout}
use Rattle.layout.specs.Groups.{shape, placement}
use Rattle.answers.proofs.Answers.{ahead_on}
use Rattle.layout.proofs.Laws.{shape-sound, shaped, placed, layouts}
use Rattle.color.specs.Palette.{palette_len}
use Rattle.demod.specs.Ready.{Seen}
use Rattle.demod.specs.Call.{bad_lengths, sentences_of}
use Rattle.demod.proofs.Accepted.{Lengths, lengths_in, seen-in}
use Rattle.demod.proofs.Card.check.Goals as goal

module _ (l : Layout) (xs ys : List ℤ) (raw : List Float) (cxs cys : List ℕ) (craw palette luma colours chroma : List Float) (r : Bool)
    (e : r ≡ bad_lengths l xs ys raw cxs cys craw palette luma colours chroma) (f : r ≡ false) where
  long : Lengths l xs ys raw cxs cys craw palette luma colours chroma
  long = lengths_in l xs ys raw cxs cys craw palette luma colours chroma (sym e ∙ f)

  modules-pair : length xs ≡ length ys
  modules-pair = long.pairs.modules

  cells-pair : length cxs ≡ length cys
  cells-pair = long.pairs.cells

  raw-three : 3 * length xs ≤ length raw
  raw-three = long.raw-three

  craw-three : 3 * length cxs ≤ length craw
  craw-three = long.craw-three

  palette-long : palette_len l.hues ≤ length palette
  palette-long = long.palette-long

  is_seen : 0 ≡ refusal (shape l) → 0 ≡ refusal (placement l xs ys cxs cys) → Seen l xs ys raw cxs cys craw
  is_seen s p = seen-in l xs ys raw cxs cys craw palette luma colours chroma (shaped l 0 s refl) long (placed l xs ys cxs cys 0 p refl)

pub check_placement-requires : goal.check_placement-requires
check_placement-requires c = (shaped _ 0 c.in_ok-check_shape.ensures refl, record { modules = search (modules-pair); cells = search (cells-pair) })

pub bad_inputs-requires : goal.bad_inputs-requires
bad_inputs-requires c = (search (raw-three), search (craw-three), search (palette-long))

pub bad_corrected-requires : goal.bad_corrected-requires
bad_corrected-requires c = is_seen _ _ _ _ _ _ _ _ _ _ _ _ c.bad_lengths.ensures c.if-bad_lengths.false c.in_ok-check_shape.ensures c.in_ok-check_placement.ensures

pub returns-in_err-check_shape : goal.returns-in_err-check_shape
unfolding sentences_of
returns-in_err-check_shape c = search (ahead_on, shape-sound, c.in_err-check_shape.ensures)

pub returns-then-bad_lengths : goal.returns-then-bad_lengths
unfolding sentences_of
returns-then-bad_lengths c = search (sentences, layouts, c.in_ok-check_shape.ensures) depth 9

pub returns-in_err-check_placement : goal.returns-in_err-check_placement
unfolding sentences_of
returns-in_err-check_placement c = search (sentences, layouts, ahead_on, c.in_ok-check_shape.ensures, c.in_err-check_placement.ensures) depth 9

pub returns-then-bad_inputs : goal.returns-then-bad_inputs
unfolding sentences_of
returns-then-bad_inputs c = search (sentences, layouts, c.in_ok-check_shape.ensures, c.in_ok-check_placement.ensures) depth 9

pub returns-then-bad_sigmas : goal.returns-then-bad_sigmas
unfolding sentences_of
returns-then-bad_sigmas c = search (sentences, layouts, c.in_ok-check_shape.ensures, c.in_ok-check_placement.ensures) depth 9

pub returns-then-bad_model : goal.returns-then-bad_model
unfolding sentences_of
returns-then-bad_model c = search (sentences, layouts, c.in_ok-check_shape.ensures, c.in_ok-check_placement.ensures) depth 9

pub returns-then-bad_corrected : goal.returns-then-bad_corrected
unfolding sentences_of
returns-then-bad_corrected c = search (sentences, layouts, c.in_ok-check_shape.ensures, c.in_ok-check_placement.ensures) depth 9

pub returns : goal.returns
unfolding sentences_of
returns c = search (sentences, layouts, c.in_ok-check_shape.ensures, c.in_ok-check_placement.ensures) depth 9
