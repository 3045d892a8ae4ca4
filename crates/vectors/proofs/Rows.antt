-- A run of words: those that are left from a place of the text and of the row on give the whole run. Assumes nothing.
use Rattle.std.proofs.Common.{◌≡◌, ℕ, Option, None, Some, ◌+◌, ◌<◌, ◌≤◌, List, length, set, sym, refl, ap, ◌∙◌, arith, length-set}
use Rattle.loops.specs.Loops.{Turn, for_try}
use Rattle.loops.proofs.Laws.{LeftTry, begin_try, turn_try, out_try, done_try}
use Rattle.vectors.specs.declared.Digits.{Digits}
use Rattle.vectors.specs.Words.{Words, words_of, word_from, took, take_word, ended, words_from}

abbrev run : List ℕ → ℕ → List ℕ → Turn Words Words
run text at row = for_try 0 (length row) (take_word text) (words_of 0 at row)

-- with k words read, up to place i of the text
pub record LeftWords (text : List ℕ) (at : ℕ) (row₀ : List ℕ) (k i : ℕ) (row : List ℕ) : Type 0 where
  pub left : LeftTry (take_word text) (length row₀) k (words_of k i row) (run text at row₀)
  pub long : length row ≡ length row₀
  pub within : k ≤ length row₀

pub begin_words : {text : List ℕ} {at : ℕ} {row : List ℕ} → LeftWords text at row 0 at row
begin_words = record { left = begin_try; long = refl; within = omega arith }

module _ {text : List ℕ} {at : ℕ} {row₀ : List ℕ} {k i : ℕ} {row : List ℕ} (inv : LeftWords text at row₀ k i row) where
  pub stop_words : {w : Option Digits} → w ≡ word_from text i → w ≡ None → k < length row₀ → words_of k i row ≡ words_from text at row₀
  unfolding words_from ended take_word took
  stop_words e f h = ap ended (out_try inv.left h (ap (took k (words_of k i row)) (sym f ∙ e)))

  pub turn_words : {w : Option Digits} {d : Digits} → w ≡ word_from text i → w ≡ Some d → k < length row₀ → LeftWords text at row₀ (k + 1) d.end (set row k d.value)
  unfolding take_word took
  turn_words {w} {d} e f h =
      record {
        left = turn_try inv.left h (ap (took k (words_of k i row)) (sym f ∙ e));
        long = length-set row k d.value ∙ inv.long;
        within = omega arith;
      }

  pub done_words : length row₀ ≤ k → words_of (length row) i row ≡ words_from text at row₀
  unfolding words_from ended
  done_words h = ap (λ (n : ℕ). words_of n i row) all ∙ ap ended (done_try inv.left h)
    where
      all : length row ≡ k
      all = omega (arith, inv.long, inv.within)
