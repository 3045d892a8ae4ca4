-- Two calls of `unmask_luma` in a row restore the scores. Where the first is accepted so is the second, and turning a sign twice restores it; where it is refused nothing is written, and the second is the
-- first again. What an unmasked score reads as is what turning a sign does to reading. Assumes nothing.
use mathlib.Core.Path.{◌≡◌, refl, ap, ◌∙◌}
use mathlib.Core.Bool.{Bool, true, false, cond}
use mathlib.Core.List.{List}
use Prim.Native.Nat.{ℕ, zero, suc}
use lib.IntN.{ℤ}
use lib.Ieee.{Float, neg}
use Rattle.sentences.specs.Sentences.{refusal, decided}
use Rattle.answers.proofs.Answers.{list-number}
use Rattle.reading.specs.Read.{reads}
use Rattle.reading.specs.Erasure.{turned}
use Rattle.reading.proofs.Erasure.{erasures}
use Rattle.modulate.specs.Score.{masked_at, unmask_at, unmasked, unmask_sentences, unmask_luma_of}
use Rattle.modulate.specs.Laws.{UnmaskingTwice, UnmaskedReads}
use Rattle.modulate.proofs.Written.{unmask-luma-twice}

module _ (luma : List Float) (side : ℕ) (xs ys : List ℤ) (g mask : ℕ) where
  number : (unmask_luma_of luma side xs ys g mask).number ≡ refusal (unmask_sentences luma side xs ys g)
  unfolding unmask_luma_of
  number = list-number (unmask_sentences luma side xs ys g) luma (unmasked mask xs ys g luma)

  kept : (n : ℕ) → refusal (unmask_sentences luma side xs ys g) ≡ suc n → (unmask_luma_of luma side xs ys g mask).list ≡ luma
  unfolding unmask_luma_of decided
  kept n e = rw e

  by : (n : ℕ) → refusal (unmask_sentences luma side xs ys g) ≡ n → (unmask_luma_of (unmask_luma_of luma side xs ys g mask).list side xs ys g mask).list ≡ luma
  by zero e = unmask-luma-twice luma side xs ys g mask (number ∙ e)
  by (suc n) e = ap (λ (l : List Float). (unmask_luma_of l side xs ys g mask).list) (kept n e) ∙ kept n e

pub unmasking-twice : UnmaskingTwice
unmasking-twice luma side xs ys g mask = by luma side xs ys g mask (refusal (unmask_sentences luma side xs ys g)) refl

-- ---- what an unmasked score reads as

reads_by : (m : Bool) (v : Float) → reads (cond m (neg v) v) ≡ cond m (turned (reads v)) (reads v)
reads_by true v = erasures.turning v
reads_by false v = refl

pub unmasked-reads : UnmaskedReads
unfolding unmask_at
unmasked-reads id xs ys i v = reads_by (masked_at id xs ys i) v
