-- Magnitudes: `Within f b x` says that the finite x is from -b to b. The magnitude of a sum or a difference is at most the sum of the magnitudes, rounded;
-- of a product at most the product, of a quotient at most the quotient by the least magnitude of the divisor: rounding keeps the order, and treats
-- both signs alike. With closed bounds antt runs the operation on them, and one test of the new bound is left. Assumes nothing.
use Rattle.std.specs.Prelude.{◌≡◌, refl, ◌⊎◌, ℕ, ◌+◌, ◌*◌, ◌≤◌, Bool, true, false, not, cond, pos, T, eqb, Float}
use Rattle.std.proofs.Common.{ap, inl, inr, le_trans, le_of_eq, mul-le-mul, arith}
use Rattle.std.specs.Float.{nan, inf, fin, Format}
use Rattle.std.specs.Float.Ieee.{unlike, round, up, down, neg, div, le}
use Rattle.floatlaws.specs.Value.{hi, lo, negative, Num}
use Rattle.floatlaws.specs.Order.{Le, of_le, to_le, sides, of_sides, neg-num, hi_neg, lo_neg}
use Rattle.floatlaws.specs.Finite.{Fin, num, fin-under, fin_of, neg-fin}
use Rattle.floatlaws.specs.Interval.{plain}

pub record Within (f : Format) (b x : Float) : Type 0 where
  pub bound : Fin f b
  pub sign : T (not (negative b))
  pub is : Fin f x
  pub high : hi f x ≤ hi f b
  pub low : lo f x ≤ hi f b

module _ {f : Format} {b x : Float} (B : Fin f b) (s : T (not (negative b))) where
  pub of_sizes : Num f x → hi f x ≤ hi f b → lo f x ≤ hi f b → Within f b x
  of_sizes n h k =
      let u = fin-under B in
      record { bound = B; sign = s; is = fin_of n (omega arith) (omega arith); high = h; low = k }

  -- from a program's tests -b ≤ x and x ≤ b
  pub of_tests : Num f x → T (le (neg b) x) → T (le x b) → Within f b x
  of_tests n t u =
      let i = sides (of_le (neg-num (num B)) n t) in
      let j = sides (of_le n (num B) u) in
      of_sizes n j.0 (le_trans i.1 (le_of_eq (lo_neg f b)))

-- and back
pub to_tests : {f : Format} {b x : Float} → Within f b x → T (le (neg b) x) × T (le x b)
to_tests {f} {b} {x} p =
    let n = num p.is in
    let z = plain f b p.sign in
    (to_le (neg-num (num p.bound)) n (of_sides (omega (arith, hi_neg f b)) (omega (arith, lo_neg f b))), to_le n (num p.bound) (of_sides p.high (omega arith)))

-- the bound of itself
pub self : {f : Format} {b : Float} → Fin f b → T (not (negative b)) → Within f b b
self {f} {b} B s = of_sizes B s (num B) (omega arith) (omega (arith, plain f b s))

-- a greater bound
pub wider : {f : Format} {a b x : Float} → Fin f b → T (not (negative b)) → Le f a b → Within f a x → Within f b x
wider B s h p = let i = sides h in of_sizes B s (num p.is) (le_trans p.high i.0) (le_trans p.low i.0)

pub neg-within : {f : Format} {b x : Float} → Within f b x → Within f b (neg x)
neg-within {f} {b} {x} p =
    record { bound = p.bound; sign = p.sign; is = neg-fin p.is; high = rw (hi_neg f x) p.low; low = rw (lo_neg f x) p.high }

-- of two numbers as their sides: the sides of the product are under the product of their bounds
pub product-under : (a b c d A B : ℕ) → (a ≡ 0) ⊎ (b ≡ 0) → (c ≡ 0) ⊎ (d ≡ 0) → a ≤ A → b ≤ A → c ≤ B → d ≤ B → a * c + b * d ≤ A * B
product-under a b c d A B (inl p) (inl q) h i j k = rw p (let m = mul-le-mul i k in omega arith)
product-under a b c d A B (inl p) (inr q) h i j k = rw p (let m = mul-le-mul i k in omega arith)
product-under a b c d A B (inr p) (inl q) h i j k = rw p (let m = mul-le-mul h j in omega arith)
product-under a b c d A B (inr p) (inr q) h i j k = rw p (let m = mul-le-mul h j in omega arith)

pub flip : {A B : Type 0} → A ⊎ B → B ⊎ A
flip (inl a) = inr a
flip (inr b) = inl b

-- ---- the quotient by a number whose magnitude is c at least
unlike-not : (s t : Bool) → unlike s t ≡ unlike (not s) (not t)
unlike-not true true = refl
unlike-not true false = refl
unlike-not false true = refl
unlike-not false false = refl

pub both-neg : (f : Format) (x y : Float) → div f x y ≡ div f (neg x) (neg y)
unfolding div neg
both-neg f nan y = refl
both-neg f (inf s) nan = refl
both-neg f (inf s) (inf t) = refl
both-neg f (inf s) (fin t n d) = ap inf (unlike-not s t)
both-neg f (fin s m e) nan = refl
both-neg f (fin s m e) (inf t) = ap (λ (u : Bool). fin u 0 (pos 0)) (unlike-not s t)
both-neg f (fin s m e) (fin t n d) = ap (λ (u : Bool). cond (eqb n 0) (cond (eqb m 0) nan (inf u)) (round f u (m * up e * down d) (n * up d * down e))) (unlike-not s t)
