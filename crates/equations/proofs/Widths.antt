-- A channel has from 4 to 18 unknowns. Assumes nothing.
use mathlib.Core.Path.{◌≡◌, refl}
use mathlib.Core.Bool.{Bool, true, false, cond}
use mathlib.Core.List.{List}
use Prim.Native.Nat.{ℕ, ◌*◌, ◌<◌, ◌≤◌}
use lib.ListN.{length, get_or, take}
use lib.Seq.{length-take-le, get_or-take}
use lib.Ieee.{Float, binary64, nan, of_bits}
use native.Mathlib.Omega.{arith}
use Rattle.illum.specs.Surface.{zero64, one64, terms_used}
use Rattle.illum.proofs.Terms.{used-most}
use Rattle.equations.specs.declared.Plan.{Plan}
use Rattle.equations.specs.Once.{width_of}

pub terms_most : (r t : ℕ) → r ≡ terms_used t → r ≤ 9
terms_most r t e = omega (arith, used-most t)

pub zero : of_bits binary64 0 ≡ zero64
unfolding of_bits
zero = refl

pub one : of_bits binary64 0x3ff0_0000_0000_0000 ≡ one64
unfolding of_bits
one = refl

either : (b : Bool) (t : ℕ) → t ≤ 9 → cond b (2 * t) t ≤ 18
either true t h = omega arith
either false t h = omega arith

-- the first t of 9 terms
pub front_of : (b : List Float) (t k : ℕ) → length b ≡ 9 → t ≤ 9 → k < length (take t b) → k < t
front_of b t k l h i = omega (arith, length-take-le t b (omega (arith, l)))

pub front_at : (b : List Float) (t k : ℕ) → length b ≡ 9 → t ≤ 9 → k < length (take t b) → get_or (take t b) k nan ≡ get_or b k nan
front_at b t k l h i = get_or-take t b k nan (front_of b t k l h i)

pub front_done : (b : List Float) (t k : ℕ) → length b ≡ 9 → t ≤ 9 → length (take t b) ≤ k → t ≤ k
front_done b t k l h i = omega (arith, length-take-le t b (omega (arith, l)))

pub width_most : (p : Plan) (w : ℕ) → w ≡ width_of p → w ≤ 18
unfolding width_of
width_most p w e = omega (arith, either p.flare (terms_used p.terms) (used-most p.terms))

-- so they fit an array of 18
pub width_fits : (p : Plan) (w l : ℕ) → w ≡ width_of p → l ≡ 18 → w ≤ l
width_fits p w l e h = omega (arith, width_most p w e)

-- the laws of the first terms, for `search`
pub ruleset parts = (front_of, front_at, front_done)
