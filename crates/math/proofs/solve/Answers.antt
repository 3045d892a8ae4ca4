-- `math::solve` meets its contract: refused by the number of the first sentence that holds, and else what `solve_core` says. Assumes nothing.
use mathlib.Core.Path.{◌≡◌, ◌∙◌}
use mathlib.Core.Bool.{Bool}
use mathlib.Core.List.{List}
use Prim.Native.Nat.{ℕ}
use lib.ListN.{length}
use lib.Ieee.{Float}
use Rattle.std.specs.Prelude.{Result}
use Rattle.std.specs.Result.{IsErr, IsErrAnd}
use Rattle.answers.specs.declared.refusal.Refusal.{Refusal}
use Rattle.answers.specs.Answers.{number_of, refused_by, gives, said}
use Rattle.answers.proofs.Answers.{passed_on}
use Rattle.math.specs.Gauss.{numbered, short_system, bad_size, settled, gauss, final, final_of, solve_of}
use Rattle.math.proofs.Accepted.{sent-away, taken, told, matrix-fits, right-fits, unknowns-fit}
use Rattle.math.proofs.solve.Goals as goal

module _ (n : ℕ) (s t : Bool) (a b x : List Float) (hs : s ≡ short_system n (length a) (length b) (length x)) (ht : t ≡ bad_size n) where
  away : (y : Result Bool Refusal) (r : Refusal) → IsErr y × IsErrAnd y (λ q. q ≡ r) → number_of r ≡ numbered s t → final (said y) a b x ≡ solve_of n a b x
  unfolding solve_of
  away y r p e = rw (passed_on y r p) (sent-away (λ j. final (refused_by j) a b x) (final_of (gauss n a b x)) s t _ _ hs ht r e)

  done : (f : Bool) (a' b' x' : List Float) → 0 ≡ numbered s t → settled f a' b' x' ≡ gauss n a b x → final (gives f) a' b' x' ≡ solve_of n a b x
  unfolding solve_of
  done f a' b' x' e h = told f a' b' x' (gauss n a b x) h ∙ taken (λ j. final (refused_by j) a b x) (final_of (gauss n a b x)) s t _ _ hs ht e

pub returns-in_err-check : goal.returns-in_err-check
returns-in_err-check c = search (away, c.in_err-check.ensures)

pub solve_core-requires : goal.solve_core-requires
solve_core-requires c = let e = c.in_ok-check.ensures in (search (matrix-fits, e), search (right-fits, e), search (unknowns-fit, e))

pub returns : goal.returns
returns c = search (done, c.in_ok-check.ensures)
