-- Rounding, as a function on numbers: `near f a c` is the fraction a / c of units, rounded to a value of the format, in units; `big` where that is
-- an infinity. It keeps the order, and a value of the format is its own. `Rounds f z P N C` says that the float z is the rounded (P - N) / C units:
-- each operation's result is such a z (`Ops`), and each law here is stated once, over `Rounds`. Assumes nothing.
use Rattle.std.specs.Prelude.{◌≡◌, refl, ℕ, zero, suc, ◌-◌, ◌*◌, ◌^◌, ◌≤◌, ◌<◌, Bool, true, not, T, ltb, Float}
use Rattle.std.proofs.Common.{sym, ap₂, ◌∙◌, le_trans, le_of_eq, zero-mul, mul_comm, mul_assoc, mul-pos, mul-le-mul_right, pow_pos}
use Rattle.std.proofs.Math.Path.{ap}
use Rattle.std.proofs.Math.Nat.{mul-sub, eq_of_mul-eq-mul_right}
use Rattle.std.proofs.Math.Bool.{false, cond}
use Rattle.std.specs.Float.{inf, Format, binary32, binary64}
use Rattle.std.specs.Float.Ieee.{prec, low, odd, units, round, is_nan}
use Rattle.std.specs.Float.Ieee.Fits.{round_is, round-fits, inf-fits}
use Rattle.std.specs.Float.Ieee.Exact.{round_exact}
use Rattle.std.specs.Float.Ieee.Order.{kept, drop, round_mono}
use Rattle.std.specs.Float.Ieee.Scale.{round_same, overflow}
use Rattle.floatlaws.specs.Value.{big, mag, hi, lo, negative, Num, mag_le, mag_of_value, overflow-pos}
use Rattle.floatlaws.specs.Order.{of_le, sides}

-- ---- what `round` makes is no NaN and has the sign that it is given, and its size does not turn on the sign
pub record Made (f : Format) (s : Bool) (x y : Float) : Type 0 where
  real : T (not (is_nan x))
  sign : negative x ≡ s
  size : mag f x ≡ mag f y

units-made : (f : Format) (s : Bool) (q k : ℕ) → Made f s (units f s q k) (units f false q k)
unfolding units odd mag is_nan
units-made f s q k = go (ltb (q * 2 ^ k) (overflow f)) q
  where
    go : (b : Bool) (q : ℕ) → Made f s (cond b (odd (suc (prec f)) s q k (low f)) (inf s)) (cond b (odd (suc (prec f)) false q k (low f)) (inf false))
    go true zero = record { real = tt; sign = refl; size = refl }
    go true (suc q) = record { real = tt; sign = refl; size = refl }
    go false q = record { real = tt; sign = refl; size = refl }

round-made : (f : Format) (s : Bool) (a c : ℕ) → Made f s (round f s a c) (round f false a c)
round-made f s a c = rw (round_is f s a c, round_is f false a c) (units-made f s (kept (prec f) (a * 2 ^ low f) c) (drop (prec f) (a * 2 ^ low f) c))

pub round-num : (f : Format) (s : Bool) (a c : ℕ) → Num f (round f s a c)
round-num f s a c = record { fit = round-fits f s a c; real = (round-made f s a c).real }

-- ---- rounding on numbers
unfoldable pub near : Format → ℕ → ℕ → ℕ
near f a c = mag f (round f false a (c * 2 ^ low f))

size-near : (f : Format) (s : Bool) (a c : ℕ) → 0 < c → mag f (round f s a c) ≡ near f (a * 2 ^ low f) c
unfolding near
size-near f s a c C =
    (round-made f s a c).size
    ∙ ap (mag f) (round_same f false a c (a * 2 ^ low f) (c * 2 ^ low f) C (mul-pos C (pow_pos (low f))) (simp (mul_assoc, mul_comm)))

pub hi_round : (f : Format) (s : Bool) (a c : ℕ) → 0 < c → hi f (round f s a c) ≡ cond s 0 (near f (a * 2 ^ low f) c)
unfolding hi
hi_round f s a c C = ap₂ (λ (t : Bool) (n : ℕ). cond t 0 n) (round-made f s a c).sign (size-near f s a c C)

pub lo_round : (f : Format) (s : Bool) (a c : ℕ) → 0 < c → lo f (round f s a c) ≡ cond s (near f (a * 2 ^ low f) c) 0
unfolding lo
lo_round f s a c C = ap₂ (λ (t : Bool) (n : ℕ). cond t n 0) (round-made f s a c).sign (size-near f s a c C)

-- ---- it keeps the order
pub near_mono : (f : Format) (a c b d : ℕ) → 0 < c → 0 < d → a * d ≤ b * c → near f a c ≤ near f b d
unfolding near
near_mono f a c b d C D h =
    let l = 2 ^ low f in
    let k : a * (d * l) ≤ b * (c * l) = le_trans (le_of_eq (sym (mul_assoc a d l))) (le_trans (mul-le-mul_right l h) (le_of_eq (mul_assoc b c l))) in
    let t = round_mono f a (c * l) b (d * l) (mul-pos C (pow_pos (low f))) (mul-pos D (pow_pos (low f))) k in
    let p = round-num f false a (c * l) in
    let q = round-num f false b (d * l) in
    le_trans (le_of_eq (sym (hi_plus f a (c * l))))
    (le_trans (sides {x = round f false a (c * l)} {y = round f false b (d * l)} (of_le p q t)).0 (le_of_eq (hi_plus f b (d * l))))
  where
    hi_plus : (f : Format) (a c : ℕ) → hi f (round f false a c) ≡ mag f (round f false a c)
    hi_plus f a c = unfold hi in ap (λ (t : Bool). cond t 0 (mag f (round f false a c))) (round-made f false a c).sign

-- ---- where it changes nothing
pub near-exact : (f : Format) (a c q j : ℕ) → 0 < c → q < 2 ^ prec f → q * 2 ^ j < overflow f → a ≡ q * 2 ^ j * c → near f a c ≡ q * 2 ^ j
unfolding near
near-exact f a c q j C small fine e =
    let l = 2 ^ low f in
    let L : 0 < c * l = mul-pos C (pow_pos (low f)) in
    let k : a * l ≡ q * 2 ^ j * (c * l) = ap (λ (x : ℕ). x * l) e ∙ mul_assoc (q * 2 ^ j) c l in
    eq_of_mul-eq-mul_right (c * l) L (mag f (round f false a (c * l))) (q * 2 ^ j)
    (mag_of_value f (round f false a (c * l)) false a (c * l) (round-fits f false a (c * l)) (round_exact f false a (c * l) q j L small fine k) ∙ k)

pub near-zero : (f : Format) (c : ℕ) → 0 < c → near f 0 c ≡ 0
near-zero f c C = near-exact f 0 c 0 0 C (pow_pos (prec f)) (overflow-pos f) (sym (zero-mul c))

-- ---- an infinity from `overflow` units on, and 0 up to a quarter of a unit
pub at_top : (f : Format) → near f (overflow f) 1 ≡ big f
unfolding near mag round
at_top binary32 = refl
at_top binary64 = refl

pub at_quarter : (f : Format) → near f 1 4 ≡ 0
unfolding near mag round
at_quarter binary32 = refl
at_quarter binary64 = refl

pub near-big : (f : Format) (a c : ℕ) → near f a c ≤ big f
unfolding near
near-big f a c = mag_le f (round f false a (c * 2 ^ low f)) (round-fits f false a (c * 2 ^ low f))

-- ---- a float that is a rounded number
pub record Rounds (f : Format) (z : Float) (P N C : ℕ) : Type 0 where
  pub num : Num f z
  pub below : 0 < C
  pub hi : hi f z ≡ near f (P - N) C
  pub lo : lo f z ≡ near f (N - P) C

pub sub-mul : (a b c : ℕ) → (a - b) * c ≡ a * c - b * c
sub-mul a b c = mul_comm (a - b) c ∙ mul-sub c a b ∙ ap₂ (λ (x y : ℕ). x - y) (mul_comm c a) (mul_comm c b)

-- ---- an infinity is rounded from any number that is `overflow` units at least
pub inf-num : (f : Format) (s : Bool) → Num f (inf s)
inf-num f s = record { fit = inf-fits f s; real = unfold is_nan in tt }
