-- Small systems worked by the definitions. Assumes nothing.
use Rattle.std.specs.Prelude.{◌≡◌, refl, true, false, [], ◌∷◌, ℕ, Float}
use Rattle.std.specs.Float.{nan, binary64}
use Rattle.std.specs.Float.Ieee.{round, sum, add, sub, mul, div, lt, eq}
use Rattle.loops.specs.Loops.{turns, for_up, for_down, and_then, turns_try, for_try}
use Rattle.sentences.specs.Sentences.{refusal, decided}
use Rattle.float.specs.Select.{abs}
use Rattle.answers.specs.Answers.{refused_by, gives}
use Rattle.math.specs.Gauss.{tiny, larger, swap_at, subtract_at, eliminate_row, bring_up, eliminate_column, residual_at, unknown, concluded, gauss, short_system, bad_size, final, solve_of}
use Rattle.math.specs.Normal.{fitted, least_squares, short_rows, least_squares_of}

-- k, and k / 2
abbrev int : ℕ → Float
int k = round binary64 false k 1

abbrev halves : ℕ → Float
halves k = round binary64 false k 2

-- 2 x + y = 4 and x + y = 3 have the solution x = 1, y = 2; the tail of x stays
solved_2 : solve_of 2 (int 2 ∷ int 1 ∷ int 1 ∷ int 1 ∷ []) (int 4 ∷ int 3 ∷ []) (int 9 ∷ int 9 ∷ int 7 ∷ [])
    ≡ final (gives true) (int 2 ∷ int 1 ∷ int 0 ∷ halves 1 ∷ []) (int 4 ∷ int 1 ∷ []) (int 1 ∷ int 2 ∷ int 7 ∷ [])
unfolding turns for_up for_down and_then turns_try for_try abs tiny larger swap_at subtract_at eliminate_row bring_up eliminate_column residual_at unknown concluded gauss short_system bad_size refusal decided solve_of round sum add sub mul div lt eq
solved_2 = refl

-- x + 2 y = 1 and 2 x + 4 y = 1 have none: the rows are exchanged, the first column is cleared, and x is untouched
none_2 : solve_of 2 (int 1 ∷ int 2 ∷ int 2 ∷ int 4 ∷ []) (int 1 ∷ int 1 ∷ []) (int 9 ∷ int 9 ∷ [])
    ≡ final (gives false) (int 2 ∷ int 4 ∷ int 0 ∷ int 0 ∷ []) (int 1 ∷ halves 1 ∷ []) (int 9 ∷ int 9 ∷ [])
unfolding turns for_up for_down and_then turns_try for_try abs tiny larger swap_at subtract_at eliminate_row bring_up eliminate_column residual_at unknown concluded gauss short_system bad_size refusal decided solve_of round sum add sub mul div lt eq
none_2 = refl

-- a NaN pivot is not below 1e-12
nan_pivot : solve_of 1 (nan ∷ []) (int 1 ∷ []) (int 9 ∷ []) ≡ final (gives true) (nan ∷ []) (int 1 ∷ []) (nan ∷ [])
unfolding turns for_up for_down and_then turns_try for_try abs tiny larger bring_up eliminate_column residual_at unknown concluded gauss short_system bad_size refusal decided solve_of round div lt
nan_pivot = refl

-- 5 comes before 6
nineteen_short : solve_of 19 [] [] [] ≡ final (refused_by 5) [] [] []
unfolding short_system refusal decided solve_of
nineteen_short = refl

nought : solve_of 0 [] [] [] ≡ final (refused_by 6) [] [] []
unfolding short_system bad_size refusal decided solve_of
nought = refl

-- fewer rows than terms
one_row_of_two : least_squares_of 2 (int 1 ∷ int 1 ∷ []) (int 1 ∷ []) (int 9 ∷ int 9 ∷ []) ≡ fitted (gives false) (int 9 ∷ int 9 ∷ [])
unfolding short_rows bad_size refusal decided least_squares least_squares_of
one_row_of_two = refl
