-- `math::add_row` meets its contract: refused by the number of the first sentence that holds, and else `add_row_core` adds the row. Assumes nothing.
use mathlib.Core.Path.{◌≡◌, ap, ◌∙◌}
use mathlib.Core.Bool.{Bool}
use mathlib.Core.List.{List}
use Prim.Native.Nat.{ℕ}
use lib.ListN.{length}
use lib.Ieee.{Float}
use Rattle.std.specs.Prelude.{Result, Ok, ⊤}
use Rattle.std.specs.Result.{IsErr, IsErrAnd}
use Rattle.answers.specs.declared.refusal.Refusal.{Refusal}
use Rattle.answers.specs.Answers.{number_of}
use Rattle.answers.proofs.Answers.{passed_on}
use Rattle.math.specs.Gauss.{numbered, bad_size, system}
use Rattle.math.specs.Normal.{short_pair, add_row, add_row_of, numbered_grown, grown}
use Rattle.math.proofs.Accepted.{sent-away, taken, sized, first_fits, second_fits}
use Rattle.math.proofs.add_row.Goals as goal

module _ (n : ℕ) (s t : Bool) (a b row : List Float) (y : Float) (hs : s ≡ short_pair n (length b) (length row)) (ht : t ≡ bad_size n) where
  away : (x : Result ⊤ Refusal) (r : Refusal) → IsErr x × IsErrAnd x (λ q. q ≡ r) → number_of r ≡ numbered s t → grown x (system a b) ≡ add_row_of n row y (system a b)
  unfolding add_row_of
  away x r p e = rw (passed_on x r p) (sent-away (λ j. numbered_grown j (system a b)) (numbered_grown 0 (add_row n row y (system a b))) s t _ _ hs ht r e)

  done : (a' b' : List Float) → 0 ≡ numbered s t → system a' b' ≡ add_row n row y (system a b) → grown (Ok tt) (system a' b') ≡ add_row_of n row y (system a b)
  unfolding add_row_of
  done a' b' e h = ap (numbered_grown 0) h ∙ taken (λ j. numbered_grown j (system a b)) (numbered_grown 0 (add_row n row y (system a b))) s t _ _ hs ht e

pub returns-in_err-check : goal.returns-in_err-check
returns-in_err-check c = search (away, c.in_err-check.ensures)

pub add_row_core-requires : goal.add_row_core-requires
add_row_core-requires c = let e = c.in_ok-check.ensures in (search (sized, e), search (first_fits, e), search (second_fits, e))

pub returns : goal.returns
returns c = search (done, c.in_ok-check.ensures)
