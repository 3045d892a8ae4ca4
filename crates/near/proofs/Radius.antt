-- A radius is an f32, of 24 binary digits at most, and f64 has 53: the 48 digits of its square have room, and neither the largest nor the smallest square
-- leaves f64's range. Assumes nothing.
use mathlib.Core.Path.{◌≡◌, refl, sym, ap, ◌∙◌}
use mathlib.Core.Logic.{◌⊎◌, inl, inr}
use mathlib.Core.Bool.{Bool, true, false, ◌&&◌}
use Prim.Native.Nat.{ℕ, ◌+◌, ◌-◌, ◌*◌, ◌^◌, ◌≤◌, ◌<◌}
use native.Mathlib.Nat.{le_trans, le_of_lt, le_of_eq, lt_of_le_of_lt, zero-mul, mul-zero, mul_assoc, mul-mul-mul_comm, mul-le-mul, mul-le-mul_right}
use native.Mathlib.Omega.{arith}
use lib.Dec.{T, lit<}
use lib.IntN.{ℤ, pos}
use lib.Pow.{pow-add, pow_pos}
use lib.Ieee.{Float, nan, inf, fin, binary32, binary64, le, lt, eq, of_int, round, fits}
use lib.Ieee.Fits.{and_l, fits_widens}
use lib.Ieee.Scale.{overflow}
use Rattle.floatlaws.specs.Value.{unit, unit-pos, mag, hi, lo, shape, mag-shape, one_side, each-side}
use Rattle.floatlaws.specs.Near.{near, near-exact, near-zero}
use Rattle.floatlaws.specs.Order.{of_le, widen-sides}
use Rattle.floatlaws.proofs.Ops.{mul-rounds, int-rounds}
use Rattle.floatlaws.proofs.Exact.{int-exact}
use Rattle.floatlaws.specs.Finite.{Fin, num, mul-num}
use Rattle.near.specs.declared.Query.{Query}
use Rattle.near.specs.declared.Query.TheVariants as query
use Rattle.near.specs.Near.{SquareExact, IsRadiusSquared, wild_radius, bad_radius}
use Rattle.near.proofs.Numbers.{passed}

-- ---- in units: n of binary32 are n × 2 ^ 925 of binary64

abbrev wide : ℕ → ℕ
wide n = n * 2 ^ 925

-- the square, which 1 has 2 ^ 1074 units of, is n × n × 2 ^ 776
square-units : (n : ℕ) → wide n * wide n ≡ n * n * 2 ^ 776 * 2 ^ 1074
square-units n =
    mul-mul-mul_comm n (2 ^ 925) n (2 ^ 925)
    ∙ ap (λ (k : ℕ). n * n * k) (sym (pow-add 2 925 925) ∙ pow-add 2 776 1074)
    ∙ sym (mul_assoc (n * n) (2 ^ 776) (2 ^ 1074))

-- n being m × 2 ^ j
square-digits : (m j : ℕ) → m * 2 ^ j * (m * 2 ^ j) * 2 ^ 776 ≡ m * m * 2 ^ (j + j + 776)
square-digits m j =
    ap (λ (k : ℕ). k * 2 ^ 776) (mul-mul-mul_comm m (2 ^ j) m (2 ^ j) ∙ ap (λ (k : ℕ). m * m * k) (sym (pow-add 2 j j)))
    ∙ mul_assoc (m * m) (2 ^ (j + j)) (2 ^ 776)
    ∙ ap (λ (k : ℕ). m * m * k) (sym (pow-add 2 (j + j) 776))

module _ (m j : ℕ) (small : m < 2 ^ 24) (under : m * 2 ^ j < overflow binary32) where
  few-digits : m * m < 2 ^ 53
  few-digits = lt_of_le_of_lt (mul-le-mul (le_of_lt small) (le_of_lt small)) (lit< tt)

  in-range : m * m * 2 ^ (j + j + 776) < overflow binary64
  in-range =
      lt_of_le_of_lt
      (le_trans (le_of_eq (sym (square-digits m j))) (mul-le-mul_right (2 ^ 776) (mul-le-mul (le_of_lt under) (le_of_lt under))))
      (lit< tt)

  square-near : near binary64 (wide (m * 2 ^ j) * wide (m * 2 ^ j)) (unit binary64) * unit binary64 ≡ wide (m * 2 ^ j) * wide (m * 2 ^ j)
  unfolding unit
  square-near =
      let e : wide (m * 2 ^ j) * wide (m * 2 ^ j) ≡ m * m * 2 ^ (j + j + 776) * 2 ^ 1074 =
      square-units (m * 2 ^ j) ∙ ap (λ (k : ℕ). k * 2 ^ 1074) (square-digits m j) in
      ap (λ (k : ℕ). k * 2 ^ 1074) (near-exact binary64 (wide (m * 2 ^ j) * wide (m * 2 ^ j)) (2 ^ 1074) (m * m) (j + j + 776) (pow_pos 1074) few-digits in-range e)
      ∙ sym e

-- ---- of a radius, which is finite and not below zero

abbrev Exact : ℕ → Type 0
Exact n = near binary64 (wide n * wide n) (unit binary64) * unit binary64 ≡ wide n * wide n

none-exact : Exact 0
none-exact = ap (λ (k : ℕ). near binary64 k (unit binary64) * unit binary64) (zero-mul (wide 0)) ∙ ap (λ (k : ℕ). k * unit binary64) (near-zero binary64 (unit binary64) (unit-pos binary64)) ∙ zero-mul (unit binary64)

size_exact : (s : Bool) (m : ℕ) (e : ℤ) → T (fits binary32 (fin s m e)) → Exact (mag binary32 (fin s m e))
size_exact s m e t = let g = shape binary32 s m e t in rw (mag-shape binary32 s m e t) (square-near m g.j g.small g.under)

-- the exact product of a number that is not below zero, by its sides
apart : (x l : ℕ) → l ≡ 0 → (x * x + l * l - (x * l + l * x) ≡ x * x) × (x * l + l * x - (x * x + l * l) ≡ 0)
apart x l e = let a = ap (λ (k : ℕ). x * k) e ∙ mul-zero x in let b = ap (λ (k : ℕ). k * x) e ∙ zero-mul x in let c = ap (λ (k : ℕ). k * l) e ∙ zero-mul l in (omega arith, omega arith)

module _ (s : Bool) (m : ℕ) (e : ℤ) (t : T (fits binary32 (fin s m e))) (up : T (le (of_int binary32 (pos 0)) (fin s m e))) where
  abbrev r : Float
  r = fin s m e

  single : Fin binary32 r
  single = record { fit = t; finite = tt }

  double : Fin binary64 r
  double = record { fit = fits_widens r t; finite = tt }

  none_below : lo binary64 r ≡ 0
  none_below = (widen-sides r t tt).1 ∙ ap wide zero_lo ∙ zero-mul (2 ^ 925)
    where
      zero_lo : lo binary32 r ≡ 0
      zero_lo =
          let z = int-exact binary32 0 (pow_pos 24) in
          let h = (of_le (int-rounds binary32 0).num (num single) up).le in
          by (one_side binary32 r) z h
        where
          by : (hi binary32 r ≡ 0) ⊎ (lo binary32 r ≡ 0) → (hi binary32 (of_int binary32 (pos 0)) ≡ 0 * unit binary32) × (lo binary32 (of_int binary32 (pos 0)) ≡ 0)
              → hi binary32 (of_int binary32 (pos 0)) + lo binary32 r ≤ hi binary32 r + lo binary32 (of_int binary32 (pos 0)) → lo binary32 r ≡ 0
          by (inl a) z h = omega (arith, z.0, z.1)
          by (inr a) z h = a

  exact-square : SquareExact r
  exact-square =
      let w = mul-rounds (num double) (num double) (mul-num double double) in
      let p = apart (hi binary64 r) (lo binary64 r) none_below in
      record {
        size =
            ap (λ (k : ℕ). k * unit binary64) (w.hi ∙ ap (λ (k : ℕ). near binary64 k (unit binary64)) p.0)
            ∙ rw (widen-sides r t tt).0 (each-side binary32 r Exact none-exact (size_exact s m e t)).0;
        not-below = (none_below, w.lo ∙ ap (λ (k : ℕ). near binary64 k (unit binary64)) p.1 ∙ near-zero binary64 (unit binary64) (unit-pos binary64));
      }

-- ---- a radius that 15 does not refuse

accepted-exact : (r : Float) → T (fits binary32 r) → T (le (of_int binary32 (pos 0)) r && lt r (inf false)) → SquareExact r
accepted-exact (fin s m e) t h = exact-square s m e t (and_l (le (of_int binary32 (pos 0)) (fin s m e)) (lt (fin s m e) (inf false)) h)
accepted-exact nan t h = absurd (unfold le lt eq of_int round in h)
accepted-exact (inf true) t h = absurd (unfold le lt eq of_int round in h)
accepted-exact (inf false) t h = absurd (unfold le lt eq of_int round in h)

pub radius-exact : (q : Query) → ((r : Float) → q ≡ query.Within r → T (fits binary32 r)) → bad_radius q ≡ false → IsRadiusSquared q
unfolding bad_radius wild_radius IsRadiusSquared
radius-exact query.Nearest f e = tt
radius-exact (query.Within r) f e = accepted-exact r (f r refl) (passed (le (of_int binary32 (pos 0)) r && lt r (inf false)) e)
radius-exact (query.CutOff c) f e = tt
