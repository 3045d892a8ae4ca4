-- `math::least_squares` meets its contract: refused by the number of the first sentence that holds, without a solution where rows are fewer than
-- terms, and else the equations that every row was added to are finished. Assumes nothing.
use mathlib.Core.Path.{◌≡◌, ap, ◌∙◌}
use mathlib.Core.Bool.{Bool, false}
use mathlib.Core.List.{List}
use Prim.Native.Nat.{ℕ, ◌≤◌, ◌<◌}
use borrow.Author.Rules.{rules}
use borrow.Author.Tests.{lt-ltb, le-ltb}
use lib.ListN.{length}
use lib.Ieee.{Float, of_bits}
use Rattle.std.specs.Prelude.{Result}
use Rattle.std.specs.Result.{IsErr, IsErrAnd}
use Rattle.answers.specs.declared.refusal.Refusal.{Refusal}
use Rattle.answers.specs.Answers.{number_of, refused_by, gives, said}
use Rattle.answers.proofs.Answers.{passed_on}
use Rattle.math.specs.Gauss.{numbered, bad_size, System, system, settled}
use Rattle.math.specs.Normal.{short_rows, finish, equations_of, fitted, fitted_of, least_squares, least_squares_of}
use Rattle.math.proofs.Accepted.{sent-away, taken, sized, some-size, rows_fit, answers-fit}
use Rattle.math.proofs.least_squares.Goals as goal

module _ (n : ℕ) (s t : Bool) (rows targets x : List Float) (hs : s ≡ short_rows n (length rows) (length targets) (length x)) (ht : t ≡ bad_size n) where
  away : (y : Result Bool Refusal) (r : Refusal) → IsErr y × IsErrAnd y (λ q. q ≡ r) → number_of r ≡ numbered s t → fitted (said y) x ≡ least_squares_of n rows targets x
  unfolding least_squares_of
  away y r p e = rw (passed_on y r p) (sent-away (λ j. fitted (refused_by j) x) (least_squares n rows targets x) s t _ _ hs ht r e)

  module _ (e : 0 ≡ numbered s t) where
    accepted : least_squares n rows targets x ≡ least_squares_of n rows targets x
    unfolding least_squares_of
    accepted = taken (λ j. fitted (refused_by j) x) (least_squares n rows targets x) s t _ _ hs ht e

    few : length targets < n → fitted (gives false) x ≡ least_squares_of n rows targets x
    unfolding least_squares
    few h = cc (accepted, lt-ltb (length targets) n h)

    done : (f : Bool) (a b a' b' x' : List Float) → n ≤ length targets → settled f a' b' x' ≡ finish n (system a b) x
        → system a b ≡ equations_of n rows targets → fitted (gives f) x' ≡ least_squares_of n rows targets x
    unfolding least_squares
    done f a b a' b' x' h hf he = ap fitted_of (hf ∙ ap (λ (q : System). finish n q x) he) ∙ cc (accepted, le-ltb (length targets) n h)

-- the right-hand side still has its 18 elements
eighteen : (n l : ℕ) (s t : Bool) → l ≡ 18 → t ≡ bad_size n → 0 ≡ numbered s t → n ≤ l
eighteen n l s t h ht e = rw h (sized s t e n ht)

pub returns-in_err-check : goal.returns-in_err-check
returns-in_err-check c = search (away, c.in_err-check.ensures)

pub returns-then-targets-terms : goal.returns-then-targets-terms
returns-then-targets-terms c = search (few, c.in_ok-check.ensures)

pub add_rows-requires : goal.add_rows-requires
add_rows-requires c =
    let e = c.in_ok-check.ensures in
    record { size = (search (some-size, e), search (sized, e)); long = (search (sized, e), search (rows_fit, e)) }

pub finish_core-requires : goal.finish_core-requires
finish_core-requires c = let e = c.in_ok-check.ensures in (search (sized, e), search (eighteen, rules, e), search (answers-fit, e))

pub returns : goal.returns
unfolding of_bits
returns c = search (done, c.in_ok-check.ensures)
