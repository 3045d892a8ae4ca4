-- The laws of specs/Exact.antt that rest on rounding keeping the order (`near_mono`, specs/Near.antt). Assumes nothing.
use Rattle.std.specs.Prelude.{◌≡◌, ◌⊎◌, ℕ, suc, ◌+◌, ◌-◌, ◌*◌, ◌^◌, ◌≤◌, ◌<◌, pos, Float}
use Rattle.std.proofs.Common.{sym, ap, ◌∙◌, inl, inr, le_refl, le_trans, le_of_eq, lt_of_lt_of_le, add_comm, add-le-add, zero-mul, mul-one, mul_comm, mul_assoc, mul-pos, arith, pow_pos, pow_mono, shl_lt}
use Rattle.std.proofs.Math.Nat.{sub-zero, zero-sub}
use Rattle.std.specs.Float.{Format}
use Rattle.std.specs.Float.Ieee.{prec, emax, low, neg, add, sub, mul, div, of_int}
use Rattle.std.specs.Float.Ieee.Fits.{reach}
use Rattle.std.specs.Float.Ieee.Scale.{overflow}
use Rattle.floatlaws.specs.Value.{unit, unit-pos, limit, hi, lo, Num, one_side, each-side, both-sides}
use Rattle.floatlaws.specs.Order.{Lt, Same, hi_neg, lo_neg}
use Rattle.floatlaws.specs.Near.{near, near-exact, near-zero, Rounds}
use Rattle.floatlaws.proofs.Near.{near_le, near_same, rounds_same, rounds-self}
use Rattle.floatlaws.specs.Ops.{mul-swap}
use Rattle.floatlaws.proofs.Ops.{add_rounds, sub-rounds, mul-rounds, div-rounds, int-rounds}
use Rattle.floatlaws.specs.Finite.{Fin, num}
use Rattle.floatlaws.specs.Exact.{one_unit, near-scale, half-sides}

-- ---- a result that is a value of the format
pub exactly : {f : Format} {x z : Float} {P N C : ℕ} → Num f x → Rounds f z P N C → hi f x * C + N ≡ P + lo f x * C → Same f x z
exactly p r e = rounds_same (rounds-self p) r (omega arith)

-- what is above zero by one unit at least rounds above zero, and so below
pub rounds-above : {f : Format} {z : Float} {P N : ℕ} → Rounds f z P N 1 → N < P → 0 < hi f z
rounds-above {f} {z} {P} {N} r h = rw r.hi (le_trans (le_of_eq (sym (one_unit f))) (near_le f 1 (P - N) 1 (pow_pos 0) (omega arith)))

pub rounds-below : {f : Format} {z : Float} {P N : ℕ} → Rounds f z P N 1 → P < N → 0 < lo f z
rounds-below {f} {z} {P} {N} r h = rw r.lo (le_trans (le_of_eq (sym (one_unit f))) (near_le f 1 (N - P) 1 (pow_pos 0) (omega arith)))

module _ {f : Format} {x y : Float} (p : Num f x) (q : Num f y) where
  module _ (r : Num f (sub f x y)) where
    pub sub-above : Lt f y x → 0 < hi f (sub f x y)
    sub-above h = rounds-above (sub-rounds p q r) (omega arith)

    pub sub-below : Lt f x y → 0 < lo f (sub f x y)
    sub-below h = rounds-below (sub-rounds p q r) (omega arith)

  module _ (r : Num f (add f x y)) where
    pub add-above : Lt f (neg y) x → 0 < hi f (add f x y)
    add-above h = rounds-above (add_rounds p q r) (omega (arith, hi_neg f y, lo_neg f y))

    pub add-below : Lt f x (neg y) → 0 < lo f (add f x y)
    add-below h = rounds-below (add_rounds p q r) (omega (arith, hi_neg f y, lo_neg f y))

-- a factor that is not negative acts on each side by itself
mul-each : {f : Format} {x t : Float} → Num f x → Num f t → Num f (mul f x t) → lo f t ≡ 0
    → (hi f (mul f x t) ≡ near f (hi f x * hi f t) (unit f)) × (lo f (mul f x t) ≡ near f (lo f x * hi f t) (unit f))
mul-each {f} {x} {t} p q r b = (
  (mul-rounds p q r).hi ∙ ap (λ (z : ℕ). near f z (unit f)) (go (one_side f x)).0,
  (mul-rounds p q r).lo
      ∙ ap (λ (z : ℕ). near f z (unit f)) (go (one_side f x)).1,
)
  where
    clear : (n : ℕ) → n ≡ 0 → n * hi f t ≡ 0
    clear n z = ap (λ (k : ℕ). k * hi f t) z ∙ zero-mul (hi f t)

    go : (hi f x ≡ 0) ⊎ (lo f x ≡ 0)
        → (hi f x * hi f t + lo f x * lo f t - (hi f x * lo f t + lo f x * hi f t) ≡ hi f x * hi f t) × (hi f x * lo f t + lo f x * hi f t - (hi f x * hi f t + lo f x * lo f t) ≡ lo f x * hi f t)
    go (inl z) = rw b (omega (arith, clear (hi f x) z))
    go (inr z) = rw b (omega (arith, clear (lo f x) z))

-- t is 2 ^ k
pub scale : {f : Format} {x t : Float} (k : ℕ) → Fin f x → Num f t → Num f (mul f x t) → hi f t ≡ 2 ^ k * unit f → lo f t ≡ 0
    → (hi f x + lo f x) * 2 ^ k < limit f
    → (hi f (mul f x t) ≡ hi f x * 2 ^ k) × (lo f (mul f x t) ≡ lo f x * 2 ^ k)
unfolding limit
scale {f} {x} {t} k p q r a b h = ((mul-each (num p) q r b).0 ∙ moved (hi f x) ∙ own.0, (mul-each (num p) q r b).1 ∙ moved (lo f x) ∙ own.1)
  where
    own : (near f (hi f x * 2 ^ k) 1 ≡ hi f x * 2 ^ k) × (near f (lo f x * 2 ^ k) 1 ≡ lo f x * 2 ^ k)
    own =
        each-side f x (λ n. near f (n * 2 ^ k) 1 ≡ n * 2 ^ k) (rw (zero-mul (2 ^ k)) (near-zero f 1 (pow_pos 0)))
        (near-scale f x k p (rw (both-sides f x) at h))

    moved : (n : ℕ) → near f (n * hi f t) (unit f) ≡ near f (n * 2 ^ k) 1
    moved n =
        near_same f (n * hi f t) (unit f) (n * 2 ^ k) 1 (unit-pos f) (pow_pos 0)
        (mul-one (n * hi f t) ∙ ap (λ (z : ℕ). n * z) a ∙ sym (mul_assoc n (2 ^ k) (unit f)))

-- the power of two first, as in 2.0 * x
pub scale' : {f : Format} {x t : Float} (k : ℕ) → Fin f x → Num f t → Num f (mul f t x) → hi f t ≡ 2 ^ k * unit f → lo f t ≡ 0
    → (hi f x + lo f x) * 2 ^ k < limit f
    → (hi f (mul f t x) ≡ hi f x * 2 ^ k) × (lo f (mul f t x) ≡ lo f x * 2 ^ k)
scale' {f} {x} {t} k p q r a b h = rw (mul-swap f t x) (scale k p q (rw (mul-swap f t x) at r) a b h)

-- t is 2 ^ -k
pub halve : {f : Format} {x t : Float} (k : ℕ) → Fin f x → Num f t → Num f (mul f x t) → hi f t * 2 ^ k ≡ unit f → lo f t ≡ 0
    → 2 ^ (prec f - 1 + k) ≤ hi f x + lo f x
    → (hi f (mul f x t) * 2 ^ k ≡ hi f x) × (lo f (mul f x t) * 2 ^ k ≡ lo f x)
halve {f} {x} {t} k p q r a b h =
    let o = half-sides k p h in
    let e = mul-each (num p) q r b in
    (ap (λ (z : ℕ). z * 2 ^ k) (e.0 ∙ moved (hi f x)) ∙ o.0, ap (λ (z : ℕ). z * 2 ^ k) (e.1 ∙ moved (lo f x)) ∙ o.1)
  where
    moved : (n : ℕ) → near f (n * hi f t) (unit f) ≡ near f n (2 ^ k)
    moved n = near_same f (n * hi f t) (unit f) n (2 ^ k) (unit-pos f) (pow_pos k) (mul_assoc n (hi f t) (2 ^ k) ∙ ap (λ (z : ℕ). n * z) a)

-- t is 2 ^ k, and divides
pub div-halve : {f : Format} {x t : Float} (k : ℕ) → Fin f x → Num f t → Num f (div f x t) → hi f t ≡ 2 ^ k * unit f
    → 2 ^ (prec f - 1 + k) ≤ hi f x + lo f x
    → (hi f (div f x t) * 2 ^ k ≡ hi f x) × (lo f (div f x t) * 2 ^ k ≡ lo f x)
div-halve {f} {x} {t} k p q r a h =
    let c : 0 < hi f t = lt_of_lt_of_le (mul-pos (pow_pos k) (unit-pos f)) (le_of_eq (sym a)) in
    let d = div-rounds (num p) q c r in
    let o = half-sides k p h in
    let e = go (one_side f x) in (
      ap (λ (z : ℕ). z * 2 ^ k) (d.hi ∙ ap (λ (z : ℕ). near f z (hi f t)) e.0 ∙ moved (hi f x) c) ∙ o.0,
      ap (λ (z : ℕ). z * 2 ^ k) (d.lo ∙ ap (λ (z : ℕ). near f z (hi f t)) e.1 ∙ moved (lo f x) c) ∙ o.1,
    )
  where
    moved : (n : ℕ) → 0 < hi f t → near f (n * unit f) (hi f t) ≡ near f n (2 ^ k)
    moved n c =
        near_same f (n * unit f) (hi f t) n (2 ^ k) c (pow_pos k)
        (mul_assoc n (unit f) (2 ^ k) ∙ ap (λ (z : ℕ). n * z) (mul_comm (unit f) (2 ^ k) ∙ sym a))

    clear : (n : ℕ) → n ≡ 0 → n * unit f ≡ 0
    clear n z = ap (λ (k : ℕ). k * unit f) z ∙ zero-mul (unit f)

    go : (hi f x ≡ 0) ⊎ (lo f x ≡ 0) → (hi f x * unit f - lo f x * unit f ≡ hi f x * unit f) × (lo f x * unit f - hi f x * unit f ≡ lo f x * unit f)
    go (inl z) = omega (arith, clear (hi f x) z)
    go (inr z) = omega (arith, clear (lo f x) z)

-- ---- a whole number below 2 ^ prec
pub int-exact : (f : Format) (n : ℕ) → n < 2 ^ prec f → (hi f (of_int f (pos n)) ≡ n * unit f) × (lo f (of_int f (pos n)) ≡ 0)
unfolding unit
int-exact f n h = (
  (int-rounds f n).hi ∙ ap (λ (z : ℕ). near f z 1) (sub-zero (n * 2 ^ low f))
      ∙ near-exact f (n * 2 ^ low f) 1 n (low f) (pow_pos 0) h fine (sym (mul-one (n * 2 ^ low f))),
  (int-rounds f n).lo ∙ ap (λ (z : ℕ). near f z 1) (zero-sub (n * 2 ^ low f)) ∙ near-zero f 1 (pow_pos 0),
)
  where
    fine : n * 2 ^ low f < overflow f
    fine =
        lt_of_lt_of_le (shl_lt (prec f) (low f) h)
        (pow_mono (le_trans (add-le-add (reach f) (le_refl (low f))) (le_of_eq (add_comm (suc (emax f)) (low f)))))
