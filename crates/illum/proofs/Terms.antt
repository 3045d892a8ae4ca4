-- A surface has 4 or 9 terms. Assumes nothing.
use Rattle.std.proofs.Common.{◌≡◌, ℕ, ◌≤◌, Bool, true, false, cond, eqb, refl, arith}
use lib.Ieee.{Float, nan, inf, fin, binary64, of_bits, round}
use lib.Ieee.Scale.{finite}
use Rattle.std.specs.Float.{float_is_finite}
use Rattle.illum.specs.Surface.{terms_used, least_gain}

four_or_nine : (b : Bool) → (4 ≤ cond b 4 9) × (cond b 4 9 ≤ 9)
four_or_nine true = (omega arith, omega arith)
four_or_nine false = (omega arith, omega arith)

pub used-least : (terms : ℕ) → 4 ≤ terms_used terms
unfolding terms_used
used-least terms = (four_or_nine (eqb terms 4)).0

pub used-most : (terms : ℕ) → terms_used terms ≤ 9
unfolding terms_used
used-most terms = (four_or_nine (eqb terms 4)).1

-- the code's 0.05
pub literal-least : of_bits binary64 0x3fa9_9999_9999_999a ≡ least_gain
unfolding of_bits round least_gain
literal-least = refl

-- the library's word for a finite number is this one
pub finite_same : (v : Float) → float_is_finite v ≡ finite v
unfolding float_is_finite
finite_same nan = refl
finite_same (inf s) = refl
finite_same (fin s m e) = refl

pub ruleset sizes = used-most

pub ruleset literals = literal-least
