-- The laws of specs/Ops.antt that rest on rounding keeping the order (`near_mono`, specs/Near.antt). Assumes nothing.
use Rattle.std.specs.Prelude.{◌≡◌, ℕ, ◌+◌, ◌-◌, ◌*◌, ◌^◌, ◌≤◌, ◌<◌, Bool, true, not, ◌&&◌, cond, pos, ltb, eqb, Float}
use Rattle.std.proofs.Common.{sym, ap, ap₂, ◌∙◌, subst, subst₂, zero-le, le_trans, le_of_eq, le_of_lt, lt_irrefl, zero-add, add-zero, add-mul, zero-mul, mul_comm, mul_assoc, mul-pos, mul-le-mul, mul-le-mul_left, le-mul_of_pos_right, arith, ltb→lt, nltb→le, eqb→eq, pow_pos}
use Rattle.std.proofs.Math.Nat.{mul-mul-mul_comm}
use Rattle.std.proofs.Math.Bool.{false}
use Rattle.std.proofs.Math.Dec.{T}
use Rattle.std.specs.Float.{nan, inf, fin, Format}
use Rattle.std.specs.Float.Ieee.{low, unlike, up, down, round, sum, add, sub, mul, div, neg, of_int, is_nan}
use Rattle.std.specs.Float.Ieee.Fits.{down_pos}
use Rattle.std.specs.Float.Ieee.Positive.{first_pos}
use Rattle.std.specs.Float.Ieee.Scale.{overflow}
use Rattle.floatlaws.specs.Value.{unit, big, mag, hi, lo, Num, mag_is, mag-under, cross, cross', overflow-pos}
use Rattle.floatlaws.specs.Order.{hi_neg, lo_neg, neg-num}
use Rattle.floatlaws.specs.Near.{Rounds}
use Rattle.floatlaws.proofs.Near.{near-tiny, round-rounds, inf-rounds}
use Rattle.floatlaws.specs.Ops.{Real, diff, even, twice, sum_far, sum_far', plus, minus, mul-sides, mag-pos, big-mul, div-sides, zero-num, four_le, zero-sides, div-cross}

sum_rounds : (f : Format) (s : Bool) (a : ℕ) (t : Bool) (b c A B : ℕ) → 0 < c → a * 2 ^ low f ≡ A * c → b * 2 ^ low f ≡ B * c
    → Rounds f (sum f s a t b c) (cond s 0 A + cond t 0 B) (cond s A 0 + cond t B 0) 1
unfolding sum
sum_rounds f false a false b c A B C p q =
    round-rounds f false (a + b) c (A + B) 0 1 C (pow_pos 0)
    (let x = add-mul a b (2 ^ low f) in let y = add-mul A B c in let z = zero-mul c in omega arith)
sum_rounds f true a true b c A B C p q =
    round-rounds f true (a + b) c 0 (A + B) 1 C (pow_pos 0)
    (let x = add-mul a b (2 ^ low f) in let y = add-mul A B c in let z = zero-mul c in omega arith)
sum_rounds f false a true b c A B C p q = go (ltb a b) (ltb→lt a b) (nltb→le a b)
  where
    go : (u : Bool) → (T u → a < b) → (T (not u) → b ≤ a) → Rounds f (cond u (round f true (b - a) c) (round f false (a - b) c)) (A + 0) (0 + B) 1
    go true h k =
        round-rounds f true (b - a) c (A + 0) (0 + B) 1 C (pow_pos 0) (simp (zero-add, add-zero) (diff a b c (2 ^ low f) A B p q (le_of_lt (h tt))))
    go false h k = round-rounds f false (a - b) c (A + 0) (0 + B) 1 C (pow_pos 0) (simp (zero-add, add-zero) (diff b a c (2 ^ low f) B A q p (k tt)))
sum_rounds f true a false b c A B C p q = go (ltb a b) (ltb b a) (ltb→lt a b) (nltb→le a b) (ltb→lt b a) (nltb→le b a)
  where
    go : (u v : Bool) → (T u → a < b) → (T (not u) → b ≤ a) → (T v → b < a) → (T (not v) → a ≤ b)
        → Rounds f (cond u (round f false (b - a) c) (round f (true && v) (a - b) c)) (0 + B) (A + 0) 1
    go true v h k i j =
        round-rounds f false (b - a) c (0 + B) (A + 0) 1 C (pow_pos 0) (simp (zero-add, add-zero) (diff a b c (2 ^ low f) A B p q (le_of_lt (h tt))))
    go false true h k i j =
        round-rounds f true (a - b) c (0 + B) (A + 0) 1 C (pow_pos 0) (simp (zero-add, add-zero) (diff b a c (2 ^ low f) B A q p (k tt)))
    go false false h k i j =
        round-rounds f false (a - b) c (0 + B) (A + 0) 1 C (pow_pos 0) (simp (zero-add, add-zero) (even a b c (2 ^ low f) A B p q (j tt) (k tt)))

pub add_rounds : {f : Format} {x y : Float} → Num f x → Num f y → Num f (add f x y) → Rounds f (add f x y) (hi f x + hi f y) (lo f x + lo f y) 1
unfolding add hi lo mag is_nan
add_rounds {f} {x = nan} p q r = absurd p.real
add_rounds {f} {x = inf s} {y = nan} p q r = absurd q.real
add_rounds {f} {x = inf true} {y = inf true} p q r = inf-rounds f true 0 (big f + big f) 1 (pow_pos 0) (let h = twice f in omega arith)
add_rounds {f} {x = inf false} {y = inf false} p q r = inf-rounds f false (big f + big f) 0 1 (pow_pos 0) (let h = twice f in omega arith)
add_rounds {f} {x = inf true} {y = inf false} p q r = absurd r.real
add_rounds {f} {x = inf false} {y = inf true} p q r = absurd r.real
add_rounds {f} {x = inf s} {y = fin t n d} p q r =
    inf-rounds f s (cond s 0 (big f) + cond t 0 (mag f (fin t n d))) (cond s (big f) 0 + cond t (mag f (fin t n d)) 0) 1 (pow_pos 0)
    (sum_far s t (overflow f) (big f) (mag f (fin t n d)) (twice f) (mag-under f t n d q.fit))
add_rounds {f} {x = fin s m e} {y = nan} p q r = absurd q.real
add_rounds {f} {x = fin s m e} {y = inf t} p q r =
    inf-rounds f t (cond s 0 (mag f (fin s m e)) + cond t 0 (big f)) (cond s (mag f (fin s m e)) 0 + cond t (big f) 0) 1 (pow_pos 0)
    (sum_far' s t (overflow f) (big f) (mag f (fin s m e)) (twice f) (mag-under f s m e p.fit))
add_rounds {f} {x = fin s m e} {y = fin t n d} p q r =
    sum_rounds f s (m * up e * down d) t (n * up d * down e) (down e * down d) (mag f (fin s m e)) (mag f (fin t n d))
    (mul-pos (down_pos e) (down_pos d))
    (cross f s m e d p.fit) (cross' f t n d e q.fit)

pub sub-rounds : {f : Format} {x y : Float} → Num f x → Num f y → Num f (sub f x y) → Rounds f (sub f x y) (hi f x + lo f y) (lo f x + hi f y) 1
unfolding sub
sub-rounds {f} {x} {y} p q r = rw (hi_neg f y, lo_neg f y) at (add_rounds {f = f} {x = x} {y = neg y} p (neg-num q) r)

mul-far : (f : Format) (s t : Bool) (M K : ℕ) → overflow f * 2 ^ low f ≤ M * K
    → Rounds f (inf (unlike s t)) (plus s t M K) (minus s t M K) (2 ^ low f)
mul-far f s t M K h =
    let k = mul-sides s t M K in inf-rounds f (unlike s t) (plus s t M K) (minus s t M K) (2 ^ low f) (pow_pos (low f))
    (rw (k.0, k.1) (omega arith))

pub mul-rounds : {f : Format} {x y : Float} → Num f x → Num f y → Num f (mul f x y)
    → Rounds f (mul f x y) (hi f x * hi f y + lo f x * lo f y) (hi f x * lo f y + lo f x * hi f y) (unit f)
unfolding unit mul hi lo mag is_nan
mul-rounds {f} {x = nan} p q r = absurd p.real
mul-rounds {f} {x = inf s} {y = nan} p q r = absurd q.real
mul-rounds {f} {x = inf s} {y = inf t} p q r = mul-far f s t (big f) (big f) (big-mul f (big f) (mul-pos (overflow-pos f) (overflow-pos f)))
mul-rounds {f} {x = inf s} {y = fin t n d} p q r = go (eqb n 0) (mag-pos f t n d q.fit) r.real
  where
    go : (b : Bool) → (T (not b) → 0 < mag f (fin t n d)) → Real (cond b nan (inf (unlike s t)))
        → Rounds f (cond b nan (inf (unlike s t))) (plus s t (big f) (mag f (fin t n d))) (minus s t (big f) (mag f (fin t n d))) (2 ^ low f)
    go true h r = absurd r
    go false h r = mul-far f s t (big f) (mag f (fin t n d)) (big-mul f (mag f (fin t n d)) (h tt))
mul-rounds {f} {x = fin s m e} {y = nan} p q r = absurd q.real
mul-rounds {f} {x = fin s m e} {y = inf t} p q r = go (eqb m 0) (mag-pos f s m e p.fit) r.real
  where
    go : (b : Bool) → (T (not b) → 0 < mag f (fin s m e)) → Real (cond b nan (inf (unlike s t)))
        → Rounds f (cond b nan (inf (unlike s t))) (plus s t (mag f (fin s m e)) (big f)) (minus s t (mag f (fin s m e)) (big f)) (2 ^ low f)
    go true h r = absurd r
    go false h r =
        mul-far f s t (mag f (fin s m e)) (big f) (le_trans (big-mul f (mag f (fin s m e)) (h tt)) (le_of_eq (mul_comm (big f) (mag f (fin s m e)))))
mul-rounds {f} {x = fin s m e} {y = fin t n d} p q r =
    let M = mag f (fin s m e) in
    let K = mag f (fin t n d) in
    let k = mul-sides s t M K in
    let z = zero-mul (down e * down d) in
    let w : M * K * (down e * down d) ≡ m * up e * (n * up d) * 2 ^ low f * 2 ^ low f =
    mul-mul-mul_comm M K (down e) (down d) ∙ ap₂ (λ (a b : ℕ). a * b) (mag_is f s m e p.fit) (mag_is f t n d q.fit)
    ∙ mul-mul-mul_comm (m * up e) (2 ^ low f) (n * up d) (2 ^ low f)
    ∙ sym (mul_assoc (m * up e * (n * up d)) (2 ^ low f) (2 ^ low f)) in
    round-rounds f (unlike s t) (m * up e * (n * up d)) (down e * down d) (plus s t M K) (minus s t M K) (2 ^ low f)
    (mul-pos (down_pos e) (down_pos d)) (pow_pos (low f))
    (rw (k.0, k.1) (omega arith))

div-far : (f : Format) (s : Bool) (K : ℕ) → 0 < K → K ≤ overflow f
    → Rounds f (inf (unlike s false)) (cond s 0 (big f) * 2 ^ low f) (cond s (big f) 0 * 2 ^ low f) K
div-far f s K C h =
    let k = div-sides s (big f) (2 ^ low f) in
    let l : overflow f * K ≤ big f * 2 ^ low f = le_trans (mul-le-mul_left (overflow f) h) (le-mul_of_pos_right (big f) (pow_pos (low f))) in
    inf-rounds f (unlike s false) (cond s 0 (big f) * 2 ^ low f) (cond s (big f) 0 * 2 ^ low f) K C (rw (k.0, k.1) (omega arith))

div-tiny : (f : Format) (s : Bool) (A : ℕ) → A < overflow f
    → Rounds f (fin (unlike s false) 0 (pos 0)) (cond s 0 A * 2 ^ low f) (cond s A 0 * 2 ^ low f) (big f)
div-tiny f s A h = record {
  num = zero-num f (unlike s false);
  below = B;
  hi = (zero-sides f (unlike s false)).0 ∙ sym (near-tiny f (P - N) (big f) B (let c = small s in omega arith));
  lo = (zero-sides f (unlike s false)).1 ∙ sym (near-tiny f (N - P) (big f) B (let c = small s in omega arith));
}
  where
    P : ℕ
    P = cond s 0 A * 2 ^ low f

    N : ℕ
    N = cond s A 0 * 2 ^ low f

    B : 0 < big f
    B = mul-pos (overflow-pos f) (overflow-pos f)

    fits_in : A * 2 ^ low f * 4 ≤ big f
    fits_in = le_trans (le_of_eq (mul_assoc A (2 ^ low f) 4 ∙ ap (λ (x : ℕ). A * x) (mul_comm (2 ^ low f) 4))) (mul-le-mul (le_of_lt h) (four_le f))

    small : (s : Bool) → (cond s 0 A * 2 ^ low f * 4 ≤ big f) × (cond s A 0 * 2 ^ low f * 4 ≤ big f)
    small true = (rw (zero-mul (2 ^ low f)) zero-le, fits_in)
    small false = (fits_in, rw (zero-mul (2 ^ low f)) zero-le)

pub div-rounds : {f : Format} {x y : Float} → Num f x → Num f y → 0 < hi f y → Num f (div f x y)
    → Rounds f (div f x y) (hi f x * unit f) (lo f x * unit f) (hi f y)
unfolding unit div hi lo mag is_nan
div-rounds {f} {x = nan} p q c r = absurd p.real
div-rounds {f} {x = inf s} {y = nan} p q c r = absurd q.real
div-rounds {f} {x = inf s} {y = inf t} p q c r = absurd r.real
div-rounds {f} {x = inf s} {y = fin true n d} p q c r = absurd (lt_irrefl 0 c)
div-rounds {f} {x = inf s} {y = fin false n d} p q c r = div-far f s (mag f (fin false n d)) c (le_of_lt (mag-under f false n d q.fit))
div-rounds {f} {x = fin s m e} {y = nan} p q c r = absurd q.real
div-rounds {f} {x = fin s m e} {y = inf true} p q c r = absurd (lt_irrefl 0 c)
div-rounds {f} {x = fin s m e} {y = inf false} p q c r = div-tiny f s (mag f (fin s m e)) (mag-under f s m e p.fit)
div-rounds {f} {x = fin s m e} {y = fin true n d} p q c r = absurd (lt_irrefl 0 c)
div-rounds {f} {x = fin s m e} {y = fin false n d} p q c r = go (eqb n 0) (eqb→eq n 0)
  where
    A : ℕ
    A = mag f (fin s m e)

    K : ℕ
    K = mag f (fin false n d)

    -- the divisor is not 0
    N : 0 < n * up d
    N = first_pos (n * up d) (2 ^ low f) (rw (← mag_is f false n d q.fit) (mul-pos c (down_pos d)))

    go : (b : Bool) → (T b → n ≡ 0)
        → Rounds f (cond b (cond (eqb m 0) nan (inf (unlike s false))) (round f (unlike s false) (m * up e * down d) (n * up d * down e))) (cond s 0 A * 2 ^ low f) (cond s A 0 * 2 ^ low f) K
    go true z = absurd (lt_irrefl 0 (subst (λ (k : ℕ). 0 < k) (ap (λ (k : ℕ). k * up d) (z tt) ∙ zero-mul (up d)) N))
    go false z =
        let k = div-sides s A (2 ^ low f) in
        round-rounds f (unlike s false) (m * up e * down d) (n * up d * down e) (cond s 0 A * 2 ^ low f) (cond s A 0 * 2 ^ low f) K
        (mul-pos N (down_pos e)) c
        (rw (k.0, k.1) (div-cross A K (m * up e) (n * up d) (down e) (down d) (2 ^ low f) (mag_is f s m e p.fit) (mag_is f false n d q.fit)))

-- ---- of operands that are not negative
pub mul-plus : {f : Format} {x y : Float} → Num f x → Num f y → Num f (mul f x y) → lo f x ≡ 0 → lo f y ≡ 0
    → Rounds f (mul f x y) (hi f x * hi f y) 0 (unit f)
mul-plus {f} {x} {y} p q r a b =
    subst₂ (λ (P N : ℕ). Rounds f (mul f x y) P N (unit f)) (rw (a, b) (omega arith)) (rw (a, b) (omega arith)) (mul-rounds p q r)

pub div-plus : {f : Format} {x y : Float} → Num f x → Num f y → 0 < hi f y → Num f (div f x y) → lo f x ≡ 0
    → Rounds f (div f x y) (hi f x * unit f) 0 (hi f y)
div-plus {f} {x} {y} p q c r a = subst (λ (N : ℕ). Rounds f (div f x y) (hi f x * unit f) N (hi f y)) (rw a (omega arith)) (div-rounds p q c r)

-- ---- a negated numerator: the sides change places
pub div-neg : {f : Format} {x y : Float} → Num f x → Num f y → 0 < hi f y → Num f (div f x y) → Num f (div f (neg x) y)
    → (hi f (div f (neg x) y) ≡ lo f (div f x y)) × (lo f (div f (neg x) y) ≡ hi f (div f x y))
div-neg {f} {x} {y} p q c r s =
    let a = div-rounds p q c r in
    let b = div-rounds {f = f} {x = neg x} {y = y} (neg-num p) q c s in
    (b.hi ∙ rw (hi_neg f x, lo_neg f x) (sym a.lo), b.lo ∙ rw (hi_neg f x, lo_neg f x) (sym a.hi))

-- ---- an integer
pub int-rounds : (f : Format) (n : ℕ) → Rounds f (of_int f (pos n)) (n * unit f) 0 1
unfolding unit of_int
int-rounds f n = round-rounds f false n 1 (n * 2 ^ low f) 0 1 (pow_pos 0) (pow_pos 0) (omega arith)
