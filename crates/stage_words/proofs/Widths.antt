-- The width of a surface: at most nine coefficients. Assumes nothing.
use Rattle.std.proofs.Common.{◌≡◌, ℕ, ◌≤◌, Bool, true, false, cond, eqb, arith}
use Rattle.illum.specs.Surface.{terms_used}

either : (b : Bool) → cond b 4 9 ≤ 9
either true = omega arith
either false = omega arith

pub few : (t n : ℕ) → n ≡ terms_used t → n ≤ 9
unfolding terms_used
few t n e = omega (arith, either (eqb t 4))
