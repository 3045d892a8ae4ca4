-- Gaussian elimination with partial pivoting on an n by n system a x = b, row by row, in binary64: `solve` of math.rs. Definitions only.
use Rattle.std.specs.Prelude.{◌≡◌, Bool, true, false, cond, ◌||◌, List, [], ◌∷◌, ◌++◌, ℕ, ◌+◌, ◌*◌, ◌^◌, length, get_or, set, replicate, drop, ltb, eqb, pos, Float}
use Rattle.std.specs.Float.{nan, fin, binary64}
use Rattle.std.specs.Float.Ieee.{sub, mul, div, lt, eq, round}
use Rattle.loops.specs.Loops.{for_up, for_down, Turn, go, out, for_try}
use Rattle.sentences.specs.Sentences.{◌when◌, refusal, decided}
use Rattle.float.specs.Select.{abs}
use Rattle.answers.specs.Answers.{Said, refused_by, gives}

-- 0, and 1e-12, below which a pivot is too small
abbrev pub zero64 : Float
zero64 = fin false 0 (pos 0)

unfoldable pub tiny : Float
tiny = round binary64 false 1 (10 ^ 12)

-- r compares as v does: they are the same, or zeros of both signs
pub record Alike (r v : Float) : Type 0 where
  pub below : (y : Float) → lt r y ≡ lt v y
  pub above : (y : Float) → lt y r ≡ lt y v

-- ---- a matrix: the element at row r and column k of an n by n matrix, and the matrix with v there

abbrev pub at : ℕ → List Float → ℕ → ℕ → Float
at n a r k = get_or a (r * n + k) nan

abbrev pub put : ℕ → List Float → ℕ → ℕ → Float → List Float
put n a r k v = set a (r * n + k) v

-- the system a x = b
pub record System : Type 0 where
  pub a : List Float
  pub b : List Float

abbrev pub system : List Float → List Float → System
system a b = record { a = a; b = b }

-- ---- the pivot: the row at or below `col` whose element in column `col` is largest in magnitude, the first of them

unfoldable pub larger : ℕ → List Float → ℕ → ℕ → ℕ → ℕ
larger n a col r p = cond (lt (abs (at n a p col)) (abs (at n a r col))) r p

abbrev pub pivot_row : ℕ → List Float → ℕ → ℕ
pivot_row n a col = for_up (col + 1) n (larger n a col) col

-- ---- rows r and q exchanged

unfoldable pub swap_at : ℕ → ℕ → ℕ → ℕ → List Float → List Float
swap_at n r q k a = put n (put n a r k (at n a q k)) q k (at n a r k)

abbrev pub swap_rows : ℕ → ℕ → ℕ → List Float → List Float
swap_rows n r q a = for_up 0 n (swap_at n r q) a

abbrev pub swap : List Float → ℕ → ℕ → List Float
swap b r q = set (set b r (get_or b q nan)) q (get_or b r nan)

-- row p brought up to row `col`, where it is another
unfoldable pub bring_up : ℕ → ℕ → ℕ → System → System
bring_up n col p s = cond (eqb p col) s (system (swap_rows n col p s.a) (swap s.b col p))

-- ---- elimination: f times row `col` taken from row r, from column `col` on, f chosen so that column `col` becomes 0

unfoldable pub subtract_at : ℕ → ℕ → ℕ → Float → ℕ → List Float → List Float
subtract_at n col r f k a = put n a r k (sub binary64 (at n a r k) (mul binary64 f (at n a col k)))

abbrev pub subtract_row : ℕ → ℕ → ℕ → Float → List Float → List Float
subtract_row n col r f a = for_up col n (subtract_at n col r f) a

-- row r, d being the pivot; f = 0 leaves it
unfoldable pub eliminate_row : ℕ → ℕ → Float → ℕ → System → System
eliminate_row n col d r s =
    let f = div binary64 (at n s.a r col) d in
    cond (eq f zero64) s
    (system (subtract_row n col r f s.a)
    (set s.b r (sub binary64 (get_or s.b r nan) (mul binary64 f (get_or s.b col nan)))))

-- every row below `col`
abbrev pub eliminate_below : ℕ → ℕ → System → System
eliminate_below n col s = for_up (col + 1) n (eliminate_row n col (at n s.a col col)) s

-- one column. Elimination stops at it where the pivot's magnitude is below 1e-12; a NaN is not below it.
unfoldable pub eliminate_column : ℕ → ℕ → System → Turn System System
eliminate_column n col s =
    let p = pivot_row n s.a col in
    cond (lt (abs (at n s.a p col)) tiny) (out s) (go (eliminate_below n col (bring_up n col p s)))

abbrev pub eliminate : ℕ → System → Turn System System
eliminate n s = for_try 0 n (eliminate_column n) s

-- ---- back substitution, from the last row up: x r = (b r - a r (r + 1) * x (r + 1) - .. - a r (n - 1) * x (n - 1)) / a r r

unfoldable pub residual_at : ℕ → List Float → List Float → ℕ → ℕ → Float → Float
residual_at n a x r k s = sub binary64 s (mul binary64 (at n a r k) (get_or x k nan))

abbrev pub residual : ℕ → List Float → List Float → List Float → ℕ → Float
residual n a b x r = for_up (r + 1) n (residual_at n a x r) (get_or b r nan)

unfoldable pub unknown : ℕ → List Float → List Float → ℕ → List Float → List Float
unknown n a b r x = set x r (div binary64 (residual n a b x r) (at n a r r))

abbrev pub back_substitute : ℕ → List Float → List Float → List Float → List Float
back_substitute n a b x = for_down n (unknown n a b) x

-- the n unknowns of a triangular system
abbrev pub unknowns : ℕ → List Float → List Float → List Float
unknowns n a b = back_substitute n a b (replicate n zero64)

-- ---- how a system is left: whether it has a solution, its operands, and the slice for the unknowns, whose tail stays

pub record Settled : Type 0 where
  pub found : Bool
  pub a : List Float
  pub b : List Float
  pub x : List Float

abbrev pub settled : Bool → List Float → List Float → List Float → Settled
settled found a b x = record { found = found; a = a; b = b; x = x }

unfoldable pub concluded : ℕ → List Float → Turn System System → Settled
concluded n x (go s) = settled true s.a s.b (unknowns n s.a s.b ++ drop n x)
concluded n x (out s) = settled false s.a s.b x

-- elimination, then back substitution: a system without a solution leaves x as it was
unfoldable pub gauss : ℕ → List Float → List Float → List Float → Settled
gauss n a b x = concluded n x (eliminate n (system a b))

-- ---- the call

-- what `solve` and `finish` give back: what the answer says, the operands and the slice for the unknowns. The answer's value is whether there is a solution:
-- "no solution" is an answer, not a refusal
pub record Final : Type 0 where
  pub said : Said Bool
  pub a : List Float
  pub b : List Float
  pub x : List Float

abbrev pub final : Said Bool → List Float → List Float → List Float → Final
final r a b x = record { said = r; a = a; b = b; x = x }

abbrev pub final_of : Settled → Final
final_of s = final (gives s.found) s.a s.b s.x

-- 5: a matrix of a elements, a right-hand side of b or a slice for the unknowns of x is too short
unfoldable pub short_system : ℕ → ℕ → ℕ → ℕ → Bool
short_system n a b x = ltb a (n * n) || (ltb b n || ltb x n)

-- 6: a matrix size or term count outside 1 to 18
unfoldable pub bad_size : ℕ → Bool
bad_size n = ltb n 1 || ltb 18 n

-- the number of the first that holds of the two sentences that a call of this crate meets, or 0
abbrev pub numbered : Bool → Bool → ℕ
numbered short bad = refusal ((5 when short) ∷ (6 when bad) ∷ [])

unfoldable pub solve_of : ℕ → List Float → List Float → List Float → Final
solve_of n a b x =
    decided (numbered (short_system n (length a) (length b) (length x)) (bad_size n)) (λ k. final (refused_by k) a b x) (final_of (gauss n a b x))
