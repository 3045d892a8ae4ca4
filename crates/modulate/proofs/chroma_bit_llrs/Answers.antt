-- `modulate::chroma_bit_llrs` meets its contract: refused by the first sentence that holds, or written. Assumes nothing.
use mathlib.Core.Path.{◌≡◌, refl}
use mathlib.Core.Bool.{false}
use mathlib.Core.List.{List}
use Prim.Native.Nat.{ℕ, ◌≤◌}
use borrow.Author.Tests.{ltb-false}
use lib.Dec.{ltb}
use lib.ListN.{length}
use lib.Ieee.{Float}
use Rattle.sentences.specs.Sentences.{refusal, at, sound, fresh}
use Rattle.sentences.proofs.Laws.{neither}
use Rattle.limits.specs.Limits.{bad_hues}
use Rattle.limits.specs.Chroma.{log2}
use Rattle.modulate.specs.declared.Cell.{Cell}
use Rattle.std.specs.Prelude.{Result, Ok, ⊤}
use Rattle.std.specs.Result.{IsErr, IsErrAnd}
use Rattle.answers.specs.declared.refusal.Refusal.{Refusal}
use Rattle.answers.specs.Answers.{number_of, ended}
use Rattle.modulate.specs.Score.{chroma_bit_llrs, bad_score_lengths, llr_sentences, chroma_bit_llrs_of}
use Rattle.answers.proofs.Answers.{none_of, list_on, list_written}
use Rattle.modulate.proofs.chroma_bit_llrs.Goals as goal

module _ (ll : List Float) (cell : Cell) (k : ℕ) (out l : List Float) where
  away : (x : Result ⊤ Refusal) (r : Refusal) → IsErr x × IsErrAnd x (λ y. y ≡ r) → number_of r ≡ refusal (llr_sentences ll cell k out) → l ≡ out → ended x l ≡ chroma_bit_llrs_of ll cell k out
  unfolding chroma_bit_llrs_of
  away x r p e h = list_on (llr_sentences ll cell k out) out (chroma_bit_llrs ll cell k out) x r l p e h

  wrote : 0 ≡ refusal (llr_sentences ll cell k out) → l ≡ chroma_bit_llrs ll cell k out → ended (Ok tt) l ≡ chroma_bit_llrs_of ll cell k out
  unfolding chroma_bit_llrs_of
  wrote e h = list_written (llr_sentences ll cell k out) out (chroma_bit_llrs ll cell k out) l e h

module _ (ll : List Float) (cell : Cell) (k : ℕ) (out : List Float) (e : 0 ≡ refusal (llr_sentences ll cell k out)) where
  hues-pass : bad_hues k ≡ false
  unfolding llr_sentences at sound fresh
  hues-pass = none_of (llr_sentences ll cell k out) refl 0 e refl 3

  long : (ltb (length ll) k ≡ false) × (ltb (length out) (log2 k) ≡ false)
  unfolding llr_sentences bad_score_lengths at sound fresh
  long = neither (ltb (length ll) k) (ltb (length out) (log2 k)) (none_of (llr_sentences ll cell k out) refl 0 e refl 5)

  likelihoods : k ≤ length ll
  likelihoods = ltb-false (length ll) k long.0

  scores : log2 k ≤ length out
  scores = ltb-false (length out) (log2 k) long.1

pub returns-in_err-check_llrs : goal.returns-in_err-check_llrs
returns-in_err-check_llrs c = search (away, c.in_err-check_llrs.ensures)

pub bit_llrs-requires : goal.bit_llrs-requires
bit_llrs-requires c = let e = c.in_ok-check_llrs.ensures in (hues-pass _ _ _ _ e, likelihoods _ _ _ _ e, scores _ _ _ _ e)

pub returns : goal.returns
returns c = search (wrote, c.in_ok-check_llrs.ensures)
