-- The 256 linear values of the sRGB bytes are the nearest floats. A test that antt computes at every byte compares fifth with twelfth powers of
-- whole numbers, of some 270 digits: the curve lies between the middles to either side of the value. Any other float lies beyond its neighbours,
-- and so beyond the middles. Assumes nothing.
use mathlib.Core.Path.{◌≡◌, refl, sym, ◌∙◌, subst}
use mathlib.Core.Bool.{Bool, true, false, not, ◌&&◌}
use mathlib.Core.List.{List}
use Prim.Native.Nat.{ℕ, zero, suc, ◌+◌, ◌-◌, ◌*◌, ◌/◌, ◌%◌, ◌^◌, ◌≤◌, ◌<◌}
use native.Mathlib.Nat.{le_trans, le_of_eq, le_of_suc-le-suc, not-suc-le-zero, lt_of_lt_of_le, lt_of_le_of_lt, add-mul, add_comm, mul-le-mul_right, pow-le-pow_left}
use native.Mathlib.Numerals.{add-one}
use native.Mathlib.Omega.{arith}
use lib.Dec.{T, lit<, ltb, eqb, eqb→eq, ltb→lt}
use lib.ListN.{length, get_or}
use lib.Ieee.{Float, binary32, fits, of_bits, nan_bits}
use lib.Ieee.Fits.{and_l, and_r}
use lib.Ieee.Scale.{finite}
use Rattle.floatlaws.specs.Value.{mag, negative}
use Rattle.floatlaws.specs.Finite.{Fin}
use Rattle.floatlaws.specs.Nearest.{Held, held, spaced_up, spaced_down}
use Rattle.color.specs.Srgb.{Root, curve, power_of, own_power, nearest_bits, srgb_to_linear, Nearer, NearestTo}
use Rattle.color.proofs.Table.{every, at, each, each_at}

-- ---- a table of the values: one test of all of its entries

-- x is the definition's pattern at v, and no NaN's
unfoldable pub right : ℕ → ℕ → Bool
unfolding curve nearest_bits nan_bits
right v x = eqb x (nearest_bits (curve v)) && not (nan_bits binary32 x)

pub record Right (v x : ℕ) : Type 0 where
  pub is : x ≡ nearest_bits (curve v)
  pub number : T (not (nan_bits binary32 x))

pub at_byte : (table : List ℕ) → T (every right 0 table) → length table ≡ 256 → (v : ℕ) → v < 256 → Right v (get_or table v 0)
unfolding right
at_byte table t e v h =
    let x = get_or table v 0 in
    let a = eqb x (nearest_bits (curve v)) in
    let b = not (nan_bits binary32 x) in
    let r = at right table t v (subst (λ (n : ℕ). v < n) (sym e) h) in
    record { is = eqb→eq x (nearest_bits (curve v)) (and_l a b r); number = and_r a b r }

-- ---- the values themselves: another test

-- the float before that of pattern x is p * 2 ^ k units, and x's is (p + 1) * 2 ^ k
abbrev digits_before : ℕ → ℕ
digits_before x = (x - 1) % 8388608 + 8388608

abbrev power_before : ℕ → ℕ
power_before x = (x - 1) / 8388608 - 1

-- y is an f32 that is finite and not negative, and (p + 1) * u units
unfoldable sized : Float → ℕ → ℕ → Bool
unfolding fits mag
sized y p u = fits binary32 y && finite y && not (negative y) && eqb (mag binary32 y) ((p + 1) * u)

-- r lies between the middles to either side of (p + 1) * u units
unfoldable between : Root → ℕ → ℕ → Bool
between r p u = ltb (power_of r ((p + (p + 1)) * u)) (own_power r) && ltb (own_power r) (power_of r (((p + 1) + (p + 1 + 1)) * u))

unfoldable near_to : Root → ℕ → Bool
unfolding sized between of_bits
near_to r x = sized (of_bits binary32 x) (digits_before x) (2 ^ power_before x) && between r (digits_before x) (2 ^ power_before x)

-- every byte above 0
unfoldable near_at : ℕ → Bool
unfolding near_to curve nearest_bits
near_at v = near_to (curve (suc v)) (nearest_bits (curve (suc v)))

all_near : T (each near_at 255)
unfolding near_at
all_near = tt

-- ---- what the test says

record Sized (y : Float) (p u : ℕ) : Type 0 where
  is : Fin binary32 y
  sign : negative y ≡ false
  size : mag binary32 y ≡ (p + 1) * u

no_sign : (s : Bool) → T (not s) → s ≡ false
no_sign true t = absurd t
no_sign false t = refl

of_sized : (y : Float) (p u : ℕ) → T (sized y p u) → Sized y p u
unfolding sized
of_sized y p u t =
    let a = fits binary32 y in
    let b = finite y in
    let c = not (negative y) in
    let d = eqb (mag binary32 y) ((p + 1) * u) in
    let w = and_l (a && b && c) d t in
    let z = and_l (a && b) c w in
    record {
      is = record { fit = and_l a b z; finite = and_r a b z };
      sign = no_sign (negative y) (and_r (a && b) c w);
      size = eqb→eq (mag binary32 y) ((p + 1) * u) (and_r (a && b && c) d t);
    }

-- a value's middles, and any other float
module _ (r : Root) (p k : ℕ) (P : 8388608 ≤ p) (t : T (between r p (2 ^ k))) where
  power_mono : {m n : ℕ} → m ≤ n → power_of r m ≤ power_of r n
  power_mono h = mul-le-mul_right r.den (pow-le-pow_left h r.power)

  more : (x : ℕ) {b y : ℕ} → b ≤ y → x + b ≤ x + y
  more x h = omega arith

  middles : (power_of r ((p + (p + 1)) * 2 ^ k) < own_power r) × (own_power r < power_of r (((p + 1) + (p + 1 + 1)) * 2 ^ k))
  unfolding between
  middles =
      let m = power_of r ((p + (p + 1)) * 2 ^ k) in
      let n = power_of r (((p + 1) + (p + 1 + 1)) * 2 ^ k) in
      let a = ltb m (own_power r) in
      let b = ltb (own_power r) n in
      (ltb→lt m (own_power r) (and_l a b t), ltb→lt (own_power r) n (and_r a b t))

  nearer : (b : ℕ) → Held binary32 b → Nearer r ((p + 1) * 2 ^ k) b
  nearer b H = (
    λ l.
        let n = spaced_up binary32 k b H (p + 1) (λ z. omega arith) l in
        lt_of_lt_of_le middles.1 (power_mono (le_trans (le_of_eq (add-mul (p + 1) (p + 1 + 1) (2 ^ k))) (more ((p + 1) * 2 ^ k) n))),
    λ l.
        let n = spaced_down binary32 k b H p (λ z. P) (subst (λ (q : ℕ). b < q * 2 ^ k) (add-one p) l) in
        lt_of_le_of_lt
        (power_mono (le_trans (more ((p + 1) * 2 ^ k) n) (le_of_eq (add_comm ((p + 1) * 2 ^ k) (p * 2 ^ k) ∙ sym (add-mul p (p + 1) (2 ^ k)))))) middles.0,
  )

-- ---- the theorem

digits-least : (x : ℕ) → 8388608 ≤ digits_before x
digits-least x = omega arith

of_test : (r : Root) (x : ℕ) → T (near_to r x) → NearestTo r (of_bits binary32 x)
unfolding near_to
of_test r x t =
    let k = power_before x in
    let p = digits_before x in
    let s = of_sized (of_bits binary32 x) p (2 ^ k) (and_l (sized (of_bits binary32 x) p (2 ^ k)) (between r p (2 ^ k)) t) in
    let b = and_r (sized (of_bits binary32 x) p (2 ^ k)) (between r p (2 ^ k)) t in
    record {
      is = s.is;
      sign = s.sign;
      nearest = λ y F. subst (λ (a : ℕ). Nearer r a (mag binary32 y)) (sym s.size) (nearer r p k (digits-least x) b (mag binary32 y) (held F));
    }

-- zero has no float before it, and is the curve's own value
zero-nearest : NearestTo (curve 0) (srgb_to_linear 0)
unfolding srgb_to_linear curve of_bits fits mag
zero-nearest = record { is = record { fit = tt; finite = tt }; sign = refl; nearest = λ y F. at_zero (mag binary32 y) }
  where
    some : {b : ℕ} → 0 < b → 1 ≤ 0 + b
    some l = omega arith

    at_zero : (b : ℕ) → Nearer (curve 0) 0 b
    at_zero b = (λ l. lt_of_lt_of_le (lit< tt) (mul-le-mul_right 32946 (pow-le-pow_left (some l) 1)), λ l. absurd (not-suc-le-zero l))

-- at every byte the linear value is the f32 nearest to the curve of IEC 61966-2-1
pub srgb_nearest : (v : ℕ) → v < 256 → NearestTo (curve v) (srgb_to_linear v)
unfolding srgb_to_linear near_at
srgb_nearest zero h = zero-nearest
srgb_nearest (suc v) h = of_test (curve (suc v)) (nearest_bits (curve (suc v))) (each_at near_at 255 all_near v (le_of_suc-le-suc h))
