-- `modulate::unmask_luma` meets its contract: refused by the first sentence that holds, or written. Assumes nothing.
use mathlib.Core.Path.{◌≡◌}
use mathlib.Core.List.{List}
use Prim.Native.Nat.{ℕ}
use lib.IntN.{ℤ}
use lib.Ieee.{Float}
use Rattle.sentences.specs.Sentences.{refusal}
use Rattle.std.specs.Prelude.{Result, Ok, ⊤}
use Rattle.std.specs.Result.{IsErr, IsErrAnd}
use Rattle.answers.specs.declared.refusal.Refusal.{Refusal}
use Rattle.answers.specs.Answers.{number_of, ended}
use Rattle.modulate.specs.Score.{unmasked, unmask_sentences, unmask_luma_of}
use Rattle.answers.proofs.Answers.{list_on, list_written}
use Rattle.modulate.proofs.Accepted.{unmask-positions, unmask-grid, unmask-modules, unmask-scores}
use Rattle.modulate.proofs.unmask_luma.Goals as goal

module _ (luma : List Float) (side : ℕ) (xs ys : List ℤ) (g mask : ℕ) (l : List Float) where
  away : (x : Result ⊤ Refusal) (r : Refusal) → IsErr x × IsErrAnd x (λ y. y ≡ r) → number_of r ≡ refusal (unmask_sentences luma side xs ys g) → l ≡ luma → ended x l ≡ unmask_luma_of luma side xs ys g mask
  unfolding unmask_luma_of
  away x r p e h = list_on (unmask_sentences luma side xs ys g) luma (unmasked mask xs ys g luma) x r l p e h

  wrote : 0 ≡ refusal (unmask_sentences luma side xs ys g) → l ≡ unmasked mask xs ys g luma → ended (Ok tt) l ≡ unmask_luma_of luma side xs ys g mask
  unfolding unmask_luma_of
  wrote e h = list_written (unmask_sentences luma side xs ys g) luma (unmasked mask xs ys g luma) l e h

pub returns-in_err-check_unmask : goal.returns-in_err-check_unmask
returns-in_err-check_unmask c = search (away, c.in_err-check_unmask.ensures)

pub invariant_of-modules : goal.invariant_of-modules
invariant_of-modules c =
    let e = c.in_ok-check_unmask.ensures in
    record { placed = unmask-positions _ _ _ _ _ e; counted = (unmask-grid _ _ _ _ _ e, unmask-modules _ _ _ _ _ e) }

pub unmask_grid-requires : goal.unmask_grid-requires
unmask_grid-requires c = unmask-scores _ _ _ _ _ c.in_ok-check_unmask.ensures

pub returns : goal.returns
returns c = search (wrote, c.in_ok-check_unmask.ensures)
