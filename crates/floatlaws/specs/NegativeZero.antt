-- Adding -0 changes no value of a format, not even a zero, whose sign it keeps: a number's magnitude grows by none, and a value of the format is rounded to itself. Assumes nothing.
use Rattle.std.specs.Prelude.{Bool, true, false, ◌≡◌, refl, ℕ, ◌*◌, ◌^◌, T, ℤ, pos, Float}
use Rattle.std.proofs.Common.{sym, ◌∙◌, zero-mul, mul-one, add-zero, arith, le-ltb, pow_pos}
use Rattle.std.proofs.Math.Nat.{sub-zero}
use Rattle.std.specs.Float.{nan, inf, fin, Format}
use Rattle.std.specs.Float.Ieee.{up, down, low, round, sum, add, fits}
use Rattle.std.specs.Float.Ieee.Exact.{round_exact}
use Rattle.std.specs.Float.Ieee.Fits.{down_pos, round-fits}
use Rattle.std.specs.Float.Ieee.Scale.{round_same}
use Rattle.floatlaws.specs.Value.{shape}
use Rattle.floatlaws.specs.Bits.{same_value}

-- a value of the format, rounded, is itself
round_of_value : (f : Format) (s : Bool) (m : ℕ) (e : ℤ) → T (fits f (fin s m e)) → round f s (m * up e) (down e) ≡ fin s m e
round_of_value f s m e t =
    let g = shape f s m e t in
    round_same f s (m * up e) (down e) (m * 2 ^ g.j) (2 ^ low f) (down_pos e) (pow_pos (low f)) (sym g.is)
    ∙ same_value f (round f s (m * 2 ^ g.j) (2 ^ low f)) (fin s m e) s (m * 2 ^ g.j) (round-fits f s (m * 2 ^ g.j) (2 ^ low f)) t
    (round_exact f s (m * 2 ^ g.j) (2 ^ low f) m g.j (pow_pos (low f)) g.small g.under refl) (refl, sym g.is)

sum_of_zero : (f : Format) (s : Bool) (a b c : ℕ) → b ≡ 0 → sum f s a true b c ≡ round f s a c
unfolding sum
sum_of_zero f true a b c z = rw (z, add-zero a)
sum_of_zero f false a b c z = rw (z, le-ltb a 0 (omega arith), sub-zero a)

pub add-negative-zero : (f : Format) (x : Float) → T (fits f x) → add f x (fin true 0 (pos 0)) ≡ x
unfolding add
add-negative-zero f nan t = refl
add-negative-zero f (inf s) t = refl
add-negative-zero f (fin s m e) t =
    sum_of_zero f s (m * up e * 1) (0 * 1 * down e) (down e * 1) (zero-mul (down e))
    ∙ rw (mul-one (m * up e), mul-one (down e)) (round_of_value f s m e t)
