-- The whole numbers from 1 to 1,024 as f32: what lies between the two ends has a whole part of at most 1,024, and each of them passes sentence 10's test of a model's side. Assumes nothing.
use Rattle.std.proofs.Common.{◌≡◌, ℕ, suc, ◌+◌, ◌-◌, ◌*◌, ◌/◌, ◌^◌, ◌<◌, ◌≤◌, min, Bool, true, false, ◌&&◌, ◌||◌, T, eqb, ltb, ◌⊎◌, ℤ, pos, sym, refl, ◌∙◌, inl, inr, ⊎_elim, le_trans, le_of_eq, le_refl, lt_of_lt_of_le, add-le-add, mul_comm, add_comm, mul-one, arith, lt→ltb, pow_pos, pow_mono, shl_lt, ltb-true, eqb-true}
use native.Mathlib.Nat.{div-le_of_le-mul, div-eq_of_eq-mul_left, min-le_left, min-eq_left}
use lib.Ieee.{Float, nan, inf, fin, Format, binary32, prec, emax, low, up, down, le, lt, eq, of_bits, of_int, round, to_unsigned}
use lib.Ieee.Fits.{reach, down_pos}
use lib.Ieee.Exact.{HasValue, round_exact}
use lib.Ieee.Scale.{overflow}
use Rattle.floatlaws.specs.Value.{Num}
use Rattle.floatlaws.specs.Order.{to_le, to_eq}
use Rattle.floatlaws.proofs.Ops.{int-rounds}
use Rattle.floatlaws.proofs.Mono.{int_mono}
use Rattle.illum.specs.Refusals.{bad_model_side}

-- 1.0 and 1024.0 as the code has them
pub one_is : of_bits binary32 0x3f80_0000 ≡ of_int binary32 (pos 1)
unfolding of_bits of_int round
one_is = refl

pub most_is : of_bits binary32 0x4480_0000 ≡ of_int binary32 (pos 1024)
unfolding of_bits of_int round
most_is = refl

-- ---- the tests

no : {A : Type 0} → false ≡ true → A
no e = let z : ◌≡◌ {A = ℕ} 0 1 = cc in absurd (omega arith)

either : (p q : Bool) → p || q ≡ true → (p ≡ true) ⊎ (q ≡ true)
either true q t = inl refl
either false q t = inr t

both : (p q : Bool) → p && q ≡ true → (p ≡ true) × (q ≡ true)
both true q t = (refl, t)
both false q t = no t

-- a ≤ b, as `le` tests it at two numbers that are not negative
at_most : (a b : ℕ) → ltb a b || (eqb a b && true) ≡ true → a ≤ b
at_most a b t =
    ⊎_elim (λ h. omega (arith, ltb-true a b h)) (λ h. omega (arith, eqb-true a b (both (eqb a b) true h).0)) (either (ltb a b) (eqb a b && true) t)

pub above : (s : Float) → le (fin false 1 (pos 0)) s ≡ true → T (lt (fin true 1 (pos 0)) s)
unfolding le lt eq
above nan t = no t
above (inf true) t = no t
above (inf false) t = tt
above (fin false m e) t = lt→ltb 0 (1 * 1 * down e + m * up e * 1) (omega (arith, down_pos e))
above (fin true m e) t =
    absurd (omega (arith, down_pos e, eqb-true (1 * 1 * down e) 0 (both (eqb (1 * 1 * down e) (m * up e * 1)) (eqb (1 * 1 * down e) 0) t).1))

module _ (m : ℕ) (e : ℤ) where
  -- m * 2 ^ e is at most 1,024
  low_of : le (fin false m e) (fin false 1 (pos 10)) ≡ true → m * up e * 1 ≤ 1 * 2 ^ 10 * down e
  unfolding le lt eq
  low_of t = at_most (m * up e * 1) (1 * 2 ^ 10 * down e) t

pub below : (s : Float) → le s (fin false 1 (pos 10)) ≡ true → T (lt s (fin false 1 (pos 64)))
unfolding le lt eq
below nan t = no t
below (inf true) t = tt
below (inf false) t = no t
below (fin true m e) t = lt→ltb 0 (m * up e * 1 + 1 * 2 ^ 64 * down e) (omega (arith, down_pos e))
below (fin false m e) t = lt→ltb (m * up e * 1) (1 * 2 ^ 64 * down e) (omega (arith, low_of m e t, down_pos e))

capped : (a b c : ℕ) → a ≤ c → min a b ≤ c
capped a b c h = omega (arith, min-le_left a b)

pub cut : (s : Float) → le s (fin false 1 (pos 10)) ≡ true → to_unsigned 64 s ≤ 1024
unfolding to_unsigned
cut nan t = omega arith
cut (inf true) t = omega arith
cut (inf false) t = unfold le lt eq in no t
cut (fin true m e) t = omega arith
cut (fin false m e) t =
    capped (m * up e / down e) (2 ^ 64 - 1) 1024 (div-le_of_le-mul (down e) (omega (arith, low_of m e t, mul_comm (down e) 1024)))

-- ---- a whole number from 1 to 1,024 passes

int-value : (f : Format) (k : ℕ) → k < 2 ^ prec f → HasValue (of_int f (pos k)) false k 1
unfolding of_int
int-value f k h = round_exact f false k 1 k (low f) (pow_pos 0) h fine (sym (mul-one (k * 2 ^ low f)))
  where
    fine : k * 2 ^ low f < overflow f
    fine = lt_of_lt_of_le (shl_lt (prec f) (low f) h) (pow_mono (le_trans (add-le-add (reach f) (le_refl (low f))) (le_of_eq (add_comm (suc (emax f)) (low f)))))

unsigned_of : (x : Float) (k : ℕ) → k ≤ 1024 → HasValue x false k 1 → to_unsigned 64 x ≡ k
unfolding to_unsigned
unsigned_of nan k l v = absurd v
unsigned_of (inf s) k l v = absurd v
unsigned_of (fin s m e) k l v =
    let q : m * up e / down e ≡ k = div-eq_of_eq-mul_left (down_pos e) (sym (mul-one (m * up e)) ∙ v.1) in
    rw (v.0, q) (min-eq_left (omega arith))

is_true : (b : Bool) → T b → b ≡ true
is_true true t = refl
is_true false t = absurd t

pub side-passes : (k : ℕ) → 1 ≤ k → k ≤ 1024 → bad_model_side (of_int binary32 (pos k)) ≡ false
unfolding bad_model_side
side-passes k h l =
    let x = of_int binary32 (pos k) in
    let n : (j : ℕ) → Num binary32 (of_int binary32 (pos j)) = λ j. (int-rounds binary32 j).num in
    let a : le (of_int binary32 (pos 1)) x ≡ true = is_true _ (to_le (n 1) (n k) (int_mono binary32 1 k h)) in
    let b : le x (of_int binary32 (pos 1024)) ≡ true = is_true _ (to_le (n k) (n 1024) (int_mono binary32 k 1024 l)) in
    let same : to_unsigned 64 x ≡ k = unsigned_of x k l (int-value binary32 k (omega arith)) in
    let c : eq x x ≡ true = is_true _ (to_eq (n k) (n k) (record { hi = refl; lo = refl })) in
    rw (same, a, b, c)
