-- The operations keep the order: their exact results do, and so does rounding (`rounds_mono`). Operands and results are values of the format that
-- are no NaN (`Num`); infinities are included. Assumes nothing.
use Rattle.std.specs.Prelude.{ℕ, ◌+◌, ◌*◌, ◌≤◌}
use Rattle.std.proofs.Common.{sym, le_trans, le_of_eq, add-mul, mul-le-mul_right}

-- ---- one factor, the other being z: 0 or above, 0 or below
pub grows : (a b c d k : ℕ) → a + b ≤ c + d → a * k + b * k ≤ c * k + d * k
grows a b c d k h = le_trans (le_of_eq (sym (add-mul a b k))) (le_trans (mul-le-mul_right k h) (le_of_eq (add-mul c d k)))
