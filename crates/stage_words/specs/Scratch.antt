-- What is lent to a call: as many flat floats as its references have. Definitions only.
use Rattle.std.specs.Prelude.{cond, ℕ, ◌-◌, ◌*◌, ◌/◌, leb, eqb}

-- eight floats for each of n references, of k floats in all, or else a part whose last reference is not whole
unfoldable pub lent_of : ℕ → ℕ → ℕ
lent_of k n = cond (leb n (k / 8)) (8 * n) (cond (eqb (k / 8) 0) k (8 * (k / 8) - 1))
