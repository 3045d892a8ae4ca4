-- What a caller may use, from the contracts alone: an answer's number is that of the first sentence that holds; a system without a solution leaves x as
-- it was, and a solved one changes no more than its first n elements. Each is by cases of the definition. Assumes nothing.
use mathlib.Core.Path.{◌≡◌, refl, sym, ap, ◌∙◌}
use mathlib.Core.Bool.{Bool, true, false, cond}
use mathlib.Core.List.{List, ◌++◌}
use Prim.Native.Nat.{ℕ, zero, suc, ◌≤◌}
use native.Mathlib.Omega.{arith}
use lib.Dec.{ltb}
use lib.ListN.{length, drop, length-append, length-drop}
use lib.Seq.{drop-append_seam}
use lib.Ieee.{Float}
use Rattle.loops.specs.Loops.{Turn, go, out}
use Rattle.sentences.specs.Sentences.{decided}
use Rattle.answers.specs.Answers.{refused_by, gives}
use Rattle.math.specs.Gauss.{numbered, short_system, bad_size, System, system, eliminate, unknowns, Settled, concluded, gauss, Final, final, final_of, solve_of}
use Rattle.math.specs.Normal.{short_pair, short_rows, add_row, finish, Grown, numbered_grown, add_row_of, finish_of, equations_of, Fitted, fitted, fitted_of, least_squares, least_squares_of}
use Rattle.math.proofs.Fresh.{unknowns-long}

-- ---- numbers

by_number : {A : Type 0} (number : A → ℕ) (refused : ℕ → A) (accepted : A) → ((k : ℕ) → number (refused k) ≡ k) → number accepted ≡ 0
    → (n : ℕ) → number (decided n refused accepted) ≡ n
unfolding decided
by_number number refused accepted hr ha zero = ha
by_number number refused accepted hr ha (suc n) = hr (suc n)

pub solve_number : (n : ℕ) (a b x : List Float) → (solve_of n a b x).said.number ≡ numbered (short_system n (length a) (length b) (length x)) (bad_size n)
unfolding solve_of
solve_number n a b x =
    by_number (λ (f : Final). f.said.number) (λ k. final (refused_by k) a b x) (final_of (gauss n a b x)) (λ k. refl) refl _

pub add-row-number : (terms : ℕ) (row : List Float) (target : Float) (s : System)
    → (add_row_of terms row target s).number ≡ numbered (short_pair terms (length s.b) (length row)) (bad_size terms)
unfolding add_row_of
add-row-number terms row target s =
    by_number (λ (g : Grown). g.number) (λ k. numbered_grown k s) (numbered_grown 0 (add_row terms row target s)) (λ k. refl) refl _

pub finish-number : (terms : ℕ) (s : System) (x : List Float)
    → (finish_of terms s x).said.number ≡ numbered (short_pair terms (length s.b) (length x)) (bad_size terms)
unfolding finish_of
finish-number terms s x =
    by_number (λ (f : Final). f.said.number) (λ k. final (refused_by k) s.a s.b x) (final_of (finish terms s x)) (λ k. refl) refl _

pub least-squares-number : (terms : ℕ) (rows targets x : List Float)
    → (least_squares_of terms rows targets x).said.number ≡ numbered (short_rows terms (length rows) (length targets) (length x)) (bad_size terms)
unfolding least_squares_of least_squares
least-squares-number terms rows targets x =
    by_number (λ (f : Fitted). f.said.number) (λ k. fitted (refused_by k) x) (least_squares terms rows targets x) (λ k. refl) (either (ltb (length targets) terms)) _
  where
    s : Settled
    s = finish terms (equations_of terms rows targets) x

    either : (b : Bool) → (cond b (fitted (gives false) x) (fitted_of s)).said.number ≡ 0
    either true = refl
    either false = refl

-- ---- the slice for the unknowns

module _ (n : ℕ) (x : List Float) where
  none_keeps : (t : Turn System System) → (concluded n x t).found ≡ false → (concluded n x t).x ≡ x
  unfolding concluded
  none_keeps (go s) h = let z : ◌≡◌ {A = ℕ} 0 1 = cc in absurd (omega arith)
  none_keeps (out s) h = refl

  long : n ≤ length x → (t : Turn System System) → length (concluded n x t).x ≡ length x
  unfolding concluded
  long h (go s) = omega (arith, length-append (unknowns n s.a s.b) (drop n x), unknowns-long n s.a s.b, length-drop n x)
  long h (out s) = refl

  behind : (t : Turn System System) → drop n (concluded n x t).x ≡ drop n x
  unfolding concluded
  behind (go s) =
      ap (λ (k : ℕ). drop k (unknowns n s.a s.b ++ drop n x)) (sym (unknowns-long n s.a s.b)) ∙ drop-append_seam (unknowns n s.a s.b) (drop n x)
  behind (out s) = refl

  module _ (a b : List Float) where
    -- no solution: x is untouched
    pub untouched : (gauss n a b x).found ≡ false → (gauss n a b x).x ≡ x
    unfolding gauss
    untouched h = none_keeps (eliminate n (system a b)) h

    -- x keeps its length and its tail
    pub keeps_length : n ≤ length x → length (gauss n a b x).x ≡ length x
    unfolding gauss
    keeps_length h = long h (eliminate n (system a b))

    pub keeps_tail : drop n (gauss n a b x).x ≡ drop n x
    unfolding gauss
    keeps_tail = behind (eliminate n (system a b))
