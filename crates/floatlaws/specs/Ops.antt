-- Each operation's result is its exact result rounded (`Rounds`), where it is no NaN: infinities need no case of their own. The exact result is (P
-- - N) / C units: P and N from the operands' `hi` and `lo`, and C is 1 for a sum, `unit` for a product and the divisor for a quotient. Assumes
-- nothing.
use Rattle.std.specs.Prelude.{◌≡◌, refl, ℕ, zero, suc, ◌+◌, ◌-◌, ◌*◌, ◌/◌, ◌^◌, ◌≤◌, ◌<◌, Bool, true, not, cond, ℤ, pos, eqb, Float}
use Rattle.std.proofs.Common.{sym, ap, ap₂, le_trans, zero-mul, mul_comm, mul_assoc, mul_left_comm, mul-pos, mul-le-mul_right, mul-le-mul_left, le-mul_of_pos_right, zero-lt-suc, arith, lit≤, pow_pos, pow_mono}
use Rattle.std.proofs.Math.Bool.{false}
use Rattle.std.proofs.Math.Dec.{T, eqb-suc-zero}
use Rattle.std.specs.Float.{nan, inf, fin, Format, binary32, binary64}
use Rattle.std.specs.Float.Ieee.{emax, low, unlike, up, down, round, mul, is_nan, fits}
use Rattle.std.specs.Float.Ieee.Fits.{up_pos}
use Rattle.std.specs.Float.Ieee.Positive.{first_pos, positive}
use Rattle.std.specs.Float.Ieee.Scale.{overflow}
use Rattle.floatlaws.specs.Value.{big, mag, hi, lo, Num, mag_is}
use Rattle.floatlaws.specs.Near.{sub-mul}

-- no NaN
abbrev pub Real : Float → Type 0
Real x = T (not (is_nan x))

-- ---- the sum
-- a / c is A units and b / c is B units
pub diff : (a b c L A B : ℕ) → a * L ≡ A * c → b * L ≡ B * c → a ≤ b → B * c ≡ (b - a) * L * 1 + A * c
diff a b c L A B p q h = let x = sub-mul b a L in let y = mul-le-mul_right L h in omega arith

pub even : (a b c L A B : ℕ) → a * L ≡ A * c → b * L ≡ B * c → a ≤ b → b ≤ a → B * c ≡ (a - b) * L * 1 + A * c
even a b c L A B p q h k = let x = sub-mul a b L in let y = mul-le-mul_right L h in let z = mul-le-mul_right L k in omega arith

-- with an infinity
pub twice : (f : Format) → overflow f + overflow f ≤ big f
twice f = le_trans (double (overflow f)) (mul-le-mul_left (overflow f) (two_le f))
  where
    double : (n : ℕ) → n + n ≤ n * 2
    double n = omega arith

    two_le : (f : Format) → 2 ≤ overflow f
    two_le binary32 = lit≤ tt
    two_le binary64 = lit≤ tt

pub sum_far : (s t : Bool) (W B M : ℕ) → W + W ≤ B → M < W
    → W * 1 + cond s (cond s 0 B + cond t 0 M) (cond s B 0 + cond t M 0) ≤ cond s (cond s B 0 + cond t M 0) (cond s 0 B + cond t 0 M)
sum_far false false W B M h k = omega arith
sum_far false true W B M h k = omega arith
sum_far true false W B M h k = omega arith
sum_far true true W B M h k = omega arith

pub sum_far' : (s t : Bool) (W B M : ℕ) → W + W ≤ B → M < W
    → W * 1 + cond t (cond s 0 M + cond t 0 B) (cond s M 0 + cond t B 0) ≤ cond t (cond s M 0 + cond t B 0) (cond s 0 M + cond t 0 B)
sum_far' false false W B M h k = omega arith
sum_far' false true W B M h k = omega arith
sum_far' true false W B M h k = omega arith
sum_far' true true W B M h k = omega arith

-- ---- the product
-- of two numbers of sizes M and K and signs s and t: the sides of the product, one of which is 0
abbrev pub plus : Bool → Bool → ℕ → ℕ → ℕ
plus s t M K = cond s 0 M * cond t 0 K + cond s M 0 * cond t K 0

abbrev pub minus : Bool → Bool → ℕ → ℕ → ℕ
minus s t M K = cond s 0 M * cond t K 0 + cond s M 0 * cond t 0 K

pub mul-sides : (s t : Bool) (M K : ℕ)
    → (cond (unlike s t) (minus s t M K) (plus s t M K) ≡ M * K) × (cond (unlike s t) (plus s t M K) (minus s t M K) ≡ 0)
mul-sides false false M K = (omega arith, omega arith)
mul-sides false true M K = (omega arith, omega arith)
mul-sides true false M K = (omega arith, omega arith)
mul-sides true true M K = (omega arith, omega arith)

low_le : (f : Format) → 2 ^ low f ≤ overflow f
low_le f = pow_mono (more (low f) (suc (emax f)))
  where
    more : (a b : ℕ) → a ≤ a + b
    more a b = omega arith

pub mag-pos : (f : Format) (s : Bool) (n : ℕ) (d : ℤ) → T (fits f (fin s n d)) → T (not (eqb n 0)) → 0 < mag f (fin s n d)
mag-pos f s zero d t z = absurd z
mag-pos f s (suc n) d t z =
    first_pos (mag f (fin s (suc n) d)) (down d) (rw (mag_is f s (suc n) d t) (mul-pos (mul-pos (zero-lt-suc n) (up_pos d)) (pow_pos (low f))))

pub hi_positive : (f : Format) (x : Float) → Num f x → T (positive x) → 0 < hi f x
hi_positive f nan p t = absurd t
hi_positive f (inf s) p t = absurd t
hi_positive f (fin true m e) p t = absurd t
hi_positive f (fin false zero e) p t = absurd t
hi_positive f (fin false (suc m) e) p t = unfold hi in mag-pos f false (suc m) e p.fit (not-zero m)
  where
    not-zero : (m : ℕ) → T (not (eqb (suc m) 0))
    not-zero m = rw (eqb-suc-zero m) tt

-- what an infinity counts as, times a number that is not 0
pub big-mul : (f : Format) (K : ℕ) → 0 < K → overflow f * 2 ^ low f ≤ big f * K
big-mul f K h = le_trans (mul-le-mul_left (overflow f) (low_le f)) (le-mul_of_pos_right (big f) h)

-- ---- the quotient by a number above zero
-- what has the sign s, and size A, over L and a divisor of no sign: the sides
pub div-sides : (s : Bool) (A L : ℕ)
    → (cond (unlike s false) (cond s A 0 * L) (cond s 0 A * L) ≡ A * L) × (cond (unlike s false) (cond s 0 A * L) (cond s A 0 * L) ≡ 0)
div-sides false A L = (refl, zero-mul L)
div-sides true A L = (refl, zero-mul L)

-- by an infinity: what is left is less than a quarter of a unit
pub zero-num : (f : Format) (s : Bool) → Num f (fin s 0 (pos 0))
zero-num f s = record { fit = unfold fits in tt; real = unfold is_nan in tt }

pub four_le : (f : Format) → 4 * 2 ^ low f ≤ overflow f
four_le binary32 = lit≤ tt
four_le binary64 = lit≤ tt

pub zero-sides : (f : Format) (s : Bool) → (hi f (fin s 0 (pos 0)) ≡ 0) × (lo f (fin s 0 (pos 0)) ≡ 0)
unfolding hi lo mag
zero-sides f true = (refl, ap (λ (x : ℕ). x / 1) (zero-mul (2 ^ low f)))
zero-sides f false = (ap (λ (x : ℕ). x / 1) (zero-mul (2 ^ low f)), refl)

pub div-cross : (M K X Y dx dy L : ℕ) → M * dx ≡ X * L → K * dy ≡ Y * L → M * L * (Y * dx) ≡ X * dy * L * K + 0 * (Y * dx)
div-cross M K X Y dx dy L p q =
    let a : M * L * (Y * dx) ≡ M * dx * (Y * L) = simp (mul_assoc, mul_comm, mul_left_comm) in
    let b : X * L * (K * dy) ≡ X * dy * L * K = simp (mul_assoc, mul_comm, mul_left_comm) in
    let c : M * dx * (Y * L) ≡ X * L * (K * dy) = ap₂ (λ (u v : ℕ). u * v) p (sym q) in
    omega arith

-- ---- the order of the factors
unlike_comm : (s t : Bool) → unlike s t ≡ unlike t s
unlike_comm true true = refl
unlike_comm true false = refl
unlike_comm false true = refl
unlike_comm false false = refl

pub mul-swap : (f : Format) (x y : Float) → mul f x y ≡ mul f y x
unfolding mul
mul-swap f nan nan = refl
mul-swap f nan (inf t) = refl
mul-swap f nan (fin t n d) = refl
mul-swap f (inf s) nan = refl
mul-swap f (inf s) (inf t) = ap inf (unlike_comm s t)
mul-swap f (inf s) (fin t n d) = ap (λ (u : Bool). cond (eqb n 0) nan (inf u)) (unlike_comm s t)
mul-swap f (fin s m e) nan = refl
mul-swap f (fin s m e) (inf t) = ap (λ (u : Bool). cond (eqb m 0) nan (inf u)) (unlike_comm s t)
mul-swap f (fin s m e) (fin t n d) = λ i. round f (unlike_comm s t i) (mul_comm (m * up e) (n * up d) i) (mul_comm (down e) (down d) i)
