-- Least squares by the normal equations, which rows are added to one after the other: `least_squares` of math.rs. Definitions only.
-- The matrix is row by row, of `terms` squared elements. `System` holds the equations: a is AᵀA, b is Aᵀy.
use Rattle.std.specs.Prelude.{Bool, false, cond, ◌||◌, List, ℕ, ◌*◌, ◌^◌, length, get_or, set, replicate, take, drop, ltb, Float, Result, ⊤}
use Rattle.std.specs.Float.{nan, binary64}
use Rattle.std.specs.Float.Ieee.{add, mul, round}
use Rattle.loops.specs.Loops.{for_up}
use Rattle.sentences.specs.Sentences.{decided}
use Rattle.answers.specs.declared.refusal.Refusal.{Refusal}
use Rattle.answers.specs.Answers.{Said, refused_by, gives, outcome_number}
use Rattle.math.specs.Gauss.{zero64, at, put, System, system, Settled, gauss, Final, final, final_of, bad_size, numbered}

-- ---- one row with its target: a i j gains row i * row j, and b i gains row i * target

unfoldable pub add_product : ℕ → List Float → ℕ → ℕ → List Float → List Float
add_product terms row i j a = put terms a i j (add binary64 (at terms a i j) (mul binary64 (get_or row i nan) (get_or row j nan)))

abbrev pub add_products : ℕ → List Float → ℕ → List Float → List Float
add_products terms row i a = for_up 0 terms (add_product terms row i) a

unfoldable pub add_line : ℕ → List Float → Float → ℕ → System → System
add_line terms row target i s =
    system (add_products terms row i s.a) (set s.b i (add binary64 (get_or s.b i nan) (mul binary64 (get_or row i nan) target)))

unfoldable pub add_row : ℕ → List Float → Float → System → System
add_row terms row target s = for_up 0 terms (add_line terms row target) s

-- ---- the equations finished: 1e-9 on the diagonal, then solved

unfoldable pub nudge : Float
nudge = round binary64 false 1 (10 ^ 9)

unfoldable pub nudge_at : ℕ → ℕ → List Float → List Float
nudge_at terms i a = put terms a i i (add binary64 (at terms a i i) nudge)

abbrev pub nudged : ℕ → List Float → List Float
nudged terms a = for_up 0 terms (nudge_at terms) a

unfoldable pub finish : ℕ → System → List Float → Settled
finish terms s x = gauss terms (nudged terms s.a) s.b x

-- ---- the two calls

-- what `add_row` gives back: document 01's number, 0 where it is accepted, and the equations
pub record Grown : Type 0 where
  pub number : ℕ
  pub equations : System

abbrev pub numbered_grown : ℕ → System → Grown
numbered_grown n s = record { number = n; equations = s }

abbrev pub grown : Result ⊤ Refusal → System → Grown
grown r s = numbered_grown (outcome_number r) s

-- 5: one of two slices, of p and q elements, has fewer than `terms`
unfoldable pub short_pair : ℕ → ℕ → ℕ → Bool
short_pair terms p q = ltb p terms || ltb q terms

unfoldable pub add_row_of : ℕ → List Float → Float → System → Grown
add_row_of terms row target s =
    decided (numbered (short_pair terms (length s.b) (length row)) (bad_size terms)) (λ k. numbered_grown k s) (numbered_grown 0 (add_row terms row target s))

unfoldable pub finish_of : ℕ → System → List Float → Final
finish_of terms s x =
    decided (numbered (short_pair terms (length s.b) (length x)) (bad_size terms)) (λ k. final (refused_by k) s.a s.b x) (final_of (finish terms s x))

-- ---- all rows at once: row k is the k-th run of `terms` numbers of `rows`, and its target is the k-th of `targets`

abbrev pub row_of : ℕ → List Float → ℕ → List Float
row_of terms rows k = take terms (drop (k * terms) rows)

unfoldable pub add_row_at : ℕ → List Float → List Float → ℕ → System → System
add_row_at terms rows targets k s = add_row terms (row_of terms rows k) (get_or targets k nan) s

abbrev pub add_rows : ℕ → List Float → List Float → System → System
add_rows terms rows targets s = for_up 0 (length targets) (add_row_at terms rows targets) s

-- the normal equations of all rows
abbrev pub equations_of : ℕ → List Float → List Float → System
equations_of terms rows targets = add_rows terms rows targets (system (replicate 324 zero64) (replicate 18 zero64))

-- what `least_squares` gives back: what the answer says, and the slice for the unknowns
pub record Fitted : Type 0 where
  pub said : Said Bool
  pub x : List Float

abbrev pub fitted : Said Bool → List Float → Fitted
fitted r x = record { said = r; x = x }

abbrev pub fitted_of : Settled → Fitted
fitted_of s = fitted (gives s.found) s.x

-- fewer rows than terms have no solution
unfoldable pub least_squares : ℕ → List Float → List Float → List Float → Fitted
least_squares terms rows targets x =
    cond (ltb (length targets) terms) (fitted (gives false) x)
    (fitted_of (finish terms (equations_of terms rows targets) x))

-- 5: fewer numbers than terms for each of the rows, or fewer unknowns than terms
unfoldable pub short_rows : ℕ → ℕ → ℕ → ℕ → Bool
short_rows terms rows targets x = ltb rows (targets * terms) || ltb x terms

unfoldable pub least_squares_of : ℕ → List Float → List Float → List Float → Fitted
least_squares_of terms rows targets x =
    decided (numbered (short_rows terms (length rows) (length targets) (length x)) (bad_size terms)) (λ k. fitted (refused_by k) x) (least_squares terms rows targets x)
