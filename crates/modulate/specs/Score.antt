-- Bit scores from hue log-likelihoods (the Rust's `chroma_bit_llrs`), and the scores of grid modules unmasked (`unmask_luma`). Definitions only.
use Rattle.std.specs.Prelude.{Bool, true, false, not, cond, ◌||◌, List, [], ◌∷◌, ℕ, zero, suc, ◌-◌, ◌/◌, ◌%◌, ◌^◌, ltb, eqb, ℤ, pos, nat_abs, length, get_or, Float}
use Rattle.std.specs.Float.{nan, inf, binary32}
use Rattle.std.specs.Float.Ieee.{neg, sub}
use Rattle.float.specs.Select.{max}
use Rattle.loops.specs.Loops.{for_up}
use Rattle.lists.specs.Lists.{replaced}
use Rattle.sentences.specs.Sentences.{Sentence, ◌when◌}
use Rattle.limits.specs.Limits.{bad_side, bad_hues, bad_cell}
use Rattle.limits.specs.Chroma.{log2}
use Rattle.layout.specs.Groups.{module_placement}
use Rattle.modulate.specs.declared.Cell.{Cell}
use Rattle.modulate.specs.declared.Cell.TheVariants.{Unmasked, At}
use Rattle.modulate.specs.declared.Best.{Best}
use Rattle.answers.specs.Answers.{Ended, written_or}
use Rattle.symbols.specs.Gray.{hue_to_chroma_symbol}
use Rattle.symbols.specs.Mask as mask

-- ---- bit scores

-- the hue that was drawn as h: no mask lies on ring modules
unfoldable pub unmasked_hue : Cell → ℕ → ℕ → ℕ
unmasked_hue Unmasked k h = h
unmasked_hue (At cx cy) k h = mask.chroma_mask_remove h cx cy k

-- bit b of a symbol of q bits, high bit first
unfoldable pub symbol_bit : ℕ → ℕ → ℕ → ℕ
symbol_bit q s b = s / 2 ^ (q - 1 - b) % 2

-- bit b of the symbol that stands behind hue h, as drawn
unfoldable pub bit_of_hue : Cell → ℕ → ℕ → ℕ → ℕ
bit_of_hue cell k b h = symbol_bit (log2 k) (hue_to_chroma_symbol (unmasked_hue cell k h) k) b

-- the best of the likelihoods so far, of the hues whose bit is 0 and of those whose bit is 1
abbrev pub best : Float → Float → Best
best z o = record { zero = z; one = o }

unfoldable pub bettered : ℕ → Float → Best → Best
bettered zero v s = best (max s.zero v) s.one
bettered (suc n) v s = best s.zero (max s.one v)

abbrev pub better_at : List Float → Cell → ℕ → ℕ → ℕ → Best → Best
better_at ll cell k b h s = bettered (bit_of_hue cell k b h) (get_or ll h nan) s

-- over all hues, from minus infinity up
abbrev pub best_of : List Float → Cell → ℕ → ℕ → Best
best_of ll cell k b = for_up 0 k (better_at ll cell k b) (best (inf true) (inf true))

-- the score of bit b: the best where it is 0, less the best where it is 1
unfoldable pub bit_llr : List Float → Cell → ℕ → ℕ → Float
bit_llr ll cell k b = let s = best_of ll cell k b in sub binary32 s.zero s.one

abbrev pub bit_llr_at : List Float → Cell → ℕ → ℕ → Float → Float
bit_llr_at ll cell k b v = bit_llr ll cell k b

-- log2(hues) scores, in the order of the symbol's bits
abbrev pub chroma_bit_llrs : List Float → Cell → ℕ → List Float → List Float
chroma_bit_llrs ll cell k out = replaced nan (log2 k) (bit_llr_at ll cell k) out

unfoldable pub bad_cell_of : Cell → Bool
bad_cell_of Unmasked = false
bad_cell_of (At cx cy) = bad_cell cx cy

-- 5: "hues floats for likelihoods", "log2(hues) scores a cell"
unfoldable pub bad_score_lengths : ℕ → ℕ → ℕ → Bool
bad_score_lengths k ll out = ltb ll k || ltb out (log2 k)

unfoldable pub llr_sentences : List Float → Cell → ℕ → List Float → List Sentence
llr_sentences ll cell k out =
    (3 when bad_hues k) ∷ (5 when bad_score_lengths k (length ll) (length out)) ∷ (7 when bad_cell_of cell) ∷ []

unfoldable pub chroma_bit_llrs_of : List Float → Cell → ℕ → List Float → Ended Float
chroma_bit_llrs_of ll cell k out = written_or (llr_sentences ll cell k out) out (chroma_bit_llrs ll cell k out)

-- ---- unmasking

-- entry i of a list of a grid module's coordinates, as a mask takes it
abbrev pub coordinate : List ℤ → ℕ → ℕ
coordinate vs i = nat_abs (get_or vs i (pos 0))

-- the mask turns module i
unfoldable pub masked_at : ℕ → List ℤ → List ℤ → ℕ → Bool
masked_at id xs ys i = mask.luma_mask id (coordinate xs i) (coordinate ys i)

-- a score for "0" becomes one for "1" where the mask turned the bit
unfoldable pub unmask_at : ℕ → List ℤ → List ℤ → ℕ → Float → Float
unmask_at id xs ys i v = cond (masked_at id xs ys i) (neg v) v

-- the g grid modules, which are listed first, and no others
abbrev pub unmasked : ℕ → List ℤ → List ℤ → ℕ → List Float → List Float
unmasked id xs ys g luma = replaced nan g (unmask_at id xs ys) luma

-- 5: x and y run in pairs, and "one score a module"
unfoldable pub bad_luma_lengths : ℕ → ℕ → ℕ → Bool
bad_luma_lengths xs ys luma = not (eqb xs ys) || ltb luma xs

-- in checking order: 2, 5, then 6, 7 of the modules
unfoldable pub unmask_sentences : List Float → ℕ → List ℤ → List ℤ → ℕ → List Sentence
unmask_sentences luma side xs ys g =
    (2 when bad_side side) ∷
    (5 when bad_luma_lengths (length xs) (length ys) (length luma)) ∷
    module_placement side g xs ys

unfoldable pub unmask_luma_of : List Float → ℕ → List ℤ → List ℤ → ℕ → ℕ → Ended Float
unmask_luma_of luma side xs ys g mask = written_or (unmask_sentences luma side xs ys g) luma (unmasked mask xs ys g luma)
