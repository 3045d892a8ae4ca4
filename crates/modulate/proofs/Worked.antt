-- The hue scores of document 01's table, (0, -1, -4, -9): bits (4, 1) without a cell and (-1, 4) at cell (1, 0). By computation. Assumes nothing.
use mathlib.Core.Path.{◌≡◌, refl}
use mathlib.Core.Bool.{true, false}
use mathlib.Core.List.{[], ◌∷◌}
use Prim.Native.Nat.{ℕ}
use lib.Ieee.{Float, binary32, round, sub, add, neg, lt, is_nan}
use Rattle.float.specs.Select.{max}
use Rattle.loops.specs.Loops.{turns, for_up}
use Rattle.limits.specs.Limits.{bad_hues, bad_cell}
use Rattle.limits.specs.Chroma.{halvings, log2}
use Rattle.sentences.specs.Sentences.{refusal, decided}
use Rattle.modulate.specs.declared.Cell.{Cell}
use Rattle.modulate.specs.declared.Cell.TheVariants.{Unmasked, At}
use Rattle.std.specs.Prelude.{Ok}
use Rattle.symbols.specs.Gray.{gray, hue_to_chroma_symbol}
use Rattle.symbols.specs.Mask.{chroma_rotation, chroma_mask_remove}
use Rattle.answers.specs.Answers.{Ended, ended}
use Rattle.modulate.specs.Score.{unmasked_hue, symbol_bit, bit_of_hue, bettered, bit_llr, bad_cell_of, bad_score_lengths, llr_sentences, chroma_bit_llrs_of}

-- a whole number, and one below zero
unfoldable pub plus : ℕ → Float
plus n = round binary32 false n 1

unfoldable pub minus : ℕ → Float
minus n = round binary32 true n 1

-- what the call leaves in two places
unfoldable pub scored : Cell → Ended Float
scored cell = chroma_bit_llrs_of (plus 0 ∷ minus 1 ∷ minus 4 ∷ minus 9 ∷ []) cell 4 (plus 0 ∷ plus 0 ∷ [])

pub uncelled : scored Unmasked ≡ ended (Ok tt) (plus 4 ∷ plus 1 ∷ [])
unfolding plus minus scored round sub add neg lt is_nan max turns for_up bad_hues bad_cell halvings log2 refusal decided gray hue_to_chroma_symbol chroma_rotation chroma_mask_remove unmasked_hue symbol_bit bit_of_hue bettered bit_llr bad_cell_of bad_score_lengths llr_sentences chroma_bit_llrs_of
uncelled = refl

pub at_cell : scored (At 1 0) ≡ ended (Ok tt) (minus 1 ∷ plus 4 ∷ [])
unfolding plus minus scored round sub add neg lt is_nan max turns for_up bad_hues bad_cell halvings log2 refusal decided gray hue_to_chroma_symbol chroma_rotation chroma_mask_remove unmasked_hue symbol_bit bit_of_hue bettered bit_llr bad_cell_of bad_score_lengths llr_sentences chroma_bit_llrs_of
at_cell = refl
