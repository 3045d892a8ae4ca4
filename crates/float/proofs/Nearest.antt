-- The root that `specs/Root.antt` defines is the nearest float, strictly, and the only one: for both degrees at once (`nearest`), then at every f32
-- (`sqrt_is`, `cbrt_is`, `sqrt-only`, `cbrt-only`). t is the root's whole part to 25 digits, and the middles between neighbours of 24 digits are
-- whole numbers of 25. The root is below t + 1, and is not t itself where t is odd, since a power of an odd number is odd and the radicand is even:
-- so no middle is the root, and the whole-number comparison of powers tells on which side it lies. Assumes nothing.
use Rattle.std.proofs.Common.{◌≡◌, ℕ, zero, suc, ◌+◌, ◌-◌, ◌*◌, ◌/◌, ◌%◌, ◌^◌, ◌<◌, ◌≤◌, Bool, true, false, not, T, eqb, ltb, ◌≢◌, ◌⊎◌, ℤ, sym, refl, ap, ◌∙◌, subst, inl, inr, le_trans, le_of_eq, le_refl, lt_of_lt_of_le, le_of_suc-le-suc, lt_of_le_of_lt, le_of_lt, lt_irrefl, mul-le-mul_right, mul_assoc, add-mul, mul-le-mul, add_comm, le_antisymm, mul-lt-mul_of_pos_right, pow-suc, lt_of_not-le, div-add-mod', mul-add, arith, lit<, lit≤, ltb→lt, nltb→le, pow_pos, pow_mono, pow-add}
use native.Mathlib.Nat.{eq_of_mul-eq-mul_right}
use native.Mathlib.Nat.{pow-zero, pow-le-pow_left, pow-lt-pow_left}
use lib.Arith.{lt_of_le-ne}
use lib.Dec.{eqb-suc-zero}
use lib.Ieee.{Float, nan, inf, fin, binary32, odd, fits}
use lib.Ieee.Exact.{odd_sign}
use lib.Ieee.Scale.{finite}
use Rattle.floatlaws.specs.Whole.{mul_pow, pow_pow}
use Rattle.floatlaws.specs.Value.{mag, negative}
use Rattle.floatlaws.specs.Ops.{mag-pos}
use Rattle.floatlaws.specs.Finite.{Fin}
use Rattle.floatlaws.specs.Bits.{mag-val, made-fits, same_float}
use Rattle.floatlaws.specs.Nearest.{Held, held, spaced_up, spaced_down}
use Rattle.float.specs.Root.{iroot, root_of_units, sqrt_of, cbrt_of}
use Rattle.float.specs.Parts.{Split}
use Rattle.float.specs.Nearest.{Nearer, NearestRoot, IsSqrt, IsCbrt}
use Rattle.float.proofs.Iroot.{iroot_spec, radicand}
use Rattle.float.proofs.Lead.{halved}
use Rattle.float.proofs.Rounding.{root-digits, half, root_is}

-- ---- a power of an odd number is odd, so it is no multiple of 2
odd_power : (t n : ℕ) → t % 2 ≡ 1 → t ^ n % 2 ≡ 1
odd_power t zero h = ap (λ (x : ℕ). x % 2) (pow-zero t)
odd_power t (suc n) h =
    ap (λ (x : ℕ). x % 2) (pow-suc t n ∙ ap (λ (x : ℕ). t ^ n * x) (sym (div-add-mod' t 2) ∙ ap (λ (x : ℕ). t / 2 * 2 + x) h)
    ∙ mul-add (t ^ n) (t / 2 * 2) 1) ∙ both (t ^ n) (t / 2) (odd_power t n h)
  where
    even : (z p : ℕ) → p % 2 ≡ 1 → (z * 2 + p * 1) % 2 ≡ 1
    even z p h = omega arith

    both : (p a : ℕ) → p % 2 ≡ 1 → (p * (a * 2) + p * 1) % 2 ≡ 1
    both p a h = subst (λ (z : ℕ). (z + p * 1) % 2 ≡ 1) (mul_assoc p a 2) (even (p * a) p h)

no_tie : (t n m c : ℕ) → t % 2 ≡ 1 → t ^ n ≡ m * 2 ^ suc c → ⊥
no_tie t n m c h e = clash (m * 2 ^ c) (t ^ n) (odd_power t n h) (e ∙ ap (λ (x : ℕ). m * x) (pow-suc 2 c) ∙ sym (mul_assoc m (2 ^ c) 2))
  where
    clash : (z p : ℕ) → p % 2 ≡ 1 → p ≡ z * 2 → ⊥
    clash z p h e = omega arith

-- ---- sums and halves, for the two sides of r. With q for (t + 1) / 2: t is q + q, or it is odd, and then it is q + p for p one below q
abbrev Parity : ℕ → Type 0
Parity t = (t ≡ (t + 1) / 2 + (t + 1) / 2) ⊎ ((t % 2 ≡ 1) × ((t + 1) / 2 ≡ suc (t / 2)) × (t ≡ suc (t / 2) + t / 2) × (0x80_0000 ≤ t / 2))

parity : (t : ℕ) → 0x100_0000 ≤ t → Parity t
parity t h = go (ltb (t % 2) 1) (ltb→lt (t % 2) 1) (nltb→le (t % 2) 1)
  where
    even : (t : ℕ) → t % 2 < 1 → t ≡ (t + 1) / 2 + (t + 1) / 2
    even t h = omega arith

    uneven : (t : ℕ) → 0x100_0000 ≤ t → 1 ≤ t % 2 → (t % 2 ≡ 1) × ((t + 1) / 2 ≡ suc (t / 2)) × (t ≡ suc (t / 2) + t / 2) × (0x80_0000 ≤ t / 2)
    uneven t h k = (omega arith, omega arith, omega arith, omega arith)

    go : (b : Bool) → (T b → t % 2 < 1) → (T (not b) → 1 ≤ t % 2) → Parity t
    go true y z = inl (even t (y tt))
    go false y z = inr (uneven t h (z tt))

covers : (t : ℕ) → t + 1 ≤ (t + 1) / 2 + ((t + 1) / 2 + 1)
covers t = omega arith

more_le : (x b y : ℕ) → b ≤ y → x + b ≤ x + y
more_le x b y h = omega arith

more : (x b : ℕ) → b < x → x + b < x + x
more x b h = omega arith

over : (t q e b : ℕ) → t + 1 ≤ q + (q + 1) → (q + 1) * e ≤ b → (t + 1) * e ≤ q * e + b
over t q e b h l = le_trans (mul-le-mul_right e h) (le_trans (le_of_eq (add-mul q (q + 1) e)) (more_le (q * e) ((q + 1) * e) b l))

not-zero : {n : ℕ} → suc n ≢ zero
not-zero e = omega arith

-- ---- both roots: n, c, u, m, s and t are as in `Rounding.antt`, c is above 0, and suc n divides 150
module _ (n c : ℕ) (g : 24 * suc n + 1 ≡ 24 + suc c) (v : 150 / suc n * suc n ≡ 150) (w : 150 / suc n ≤ 126) (u m s t : ℕ) (P : Split u m s)
    (lo : t ^ suc n ≤ m * 2 ^ (suc c + s % suc n)) (hi : m * 2 ^ (suc c + s % suc n) < (t + 1) ^ suc n) where
  -- the radicand in units: of x's own, and of r's
  scaled : m * 2 ^ (suc c + s % suc n) * (2 ^ (s / suc n + 126 - 150 / suc n)) ^ suc n ≡ u * 2 ^ suc n * 2 ^ (149 * (suc n - 1))
  scaled =
      let N = suc n in
      let d = s / N in
      let H = 150 / N in
      let K = d + 126 - H in
      let W = m * 2 ^ (suc c + s % N) in
      eq_of_mul-eq-mul_right (2 ^ 150) (pow_pos 150) (W * (2 ^ K) ^ N) (u * 2 ^ N * 2 ^ (149 * (N - 1)))
      (mul_assoc W ((2 ^ K) ^ N) (2 ^ 150)
      ∙ ap (λ (x : ℕ). W * ((2 ^ K) ^ N * x)) (ap (λ (x : ℕ). 2 ^ x) (sym v) ∙ sym (pow_pow 2 H N))
      ∙ ap (λ (x : ℕ). W * x) (sym (mul_pow (2 ^ K) (2 ^ H) N)
      ∙ ap (λ (x : ℕ). x ^ N) (sym (pow-add 2 K H) ∙ ap (λ (x : ℕ). 2 ^ x) (back d H w) ∙ pow-add 2 d 126) ∙ mul_pow (2 ^ d) (2 ^ 126) N)
      ∙ sym (mul_assoc W ((2 ^ d) ^ N) ((2 ^ 126) ^ N))
      ∙ ap (λ (x : ℕ). x * (2 ^ 126) ^ N) (sym (radicand N (suc c) u m s d (s % N) P.same (sym (div-add-mod' s N))))
      ∙ ap (λ (x : ℕ). u * 2 ^ (24 + suc c) * x) (pow_pow 2 126 N)
      ∙ mul_assoc u (2 ^ (24 + suc c)) (2 ^ (126 * N))
      ∙ ap (λ (x : ℕ). u * x) (sym (pow-add 2 (24 + suc c) (126 * N)) ∙ ap (λ (x : ℕ). 2 ^ x) (exponents n c g) ∙ pow-add 2 (N + 149 * (N - 1)) 150
      ∙ ap (λ (x : ℕ). x * 2 ^ 150) (pow-add 2 N (149 * (N - 1))))
      ∙ sym (mul_assoc u (2 ^ N * 2 ^ (149 * (N - 1))) (2 ^ 150))
      ∙ ap (λ (x : ℕ). x * 2 ^ 150) (sym (mul_assoc u (2 ^ N) (2 ^ (149 * (N - 1))))))
    where
      back : (d h : ℕ) → h ≤ 126 → d + 126 - h + h ≡ d + 126
      back d h l = omega arith

      exponents : (n c : ℕ) → 24 * suc n + 1 ≡ 24 + suc c → 24 + suc c + 126 * suc n ≡ suc n + 149 * (suc n - 1) + 150
      exponents n c g = omega arith

  -- the middles to either side, t and t + 1 of half r's unit
  lower : (t * 2 ^ (s / suc n + 126 - 150 / suc n)) ^ suc n ≤ u * 2 ^ suc n * 2 ^ (149 * (suc n - 1))
  lower =
      let K = s / suc n + 126 - 150 / suc n in
      le_trans (le_of_eq (mul_pow t (2 ^ K) (suc n))) (le_trans (mul-le-mul_right ((2 ^ K) ^ suc n) lo) (le_of_eq scaled))

  powers-pos : 0 < (2 ^ (s / suc n + 126 - 150 / suc n)) ^ suc n
  powers-pos =
      let K = s / suc n + 126 - 150 / suc n in
      lt_of_lt_of_le (pow_pos (K * suc n)) (le_of_eq (sym (pow_pow 2 K (suc n))))

  upper : u * 2 ^ suc n * 2 ^ (149 * (suc n - 1)) < ((t + 1) * 2 ^ (s / suc n + 126 - 150 / suc n)) ^ suc n
  upper =
      let K = s / suc n + 126 - 150 / suc n in
      lt_of_le_of_lt (le_of_eq (sym scaled))
      (lt_of_lt_of_le (mul-lt-mul_of_pos_right hi powers-pos) (le_of_eq (sym (mul_pow (t + 1) (2 ^ K) (suc n)))))

  lower-odd : t % 2 ≡ 1 → (t * 2 ^ (s / suc n + 126 - 150 / suc n)) ^ suc n < u * 2 ^ suc n * 2 ^ (149 * (suc n - 1))
  lower-odd h =
      let K = s / suc n + 126 - 150 / suc n in
      lt_of_le_of_lt (le_of_eq (mul_pow t (2 ^ K) (suc n)))
      (lt_of_lt_of_le (mul-lt-mul_of_pos_right
      (lt_of_le-ne lo (λ (e : t ^ suc n ≡ m * 2 ^ (suc c + s % suc n)). no_tie t (suc n) m (c + s % suc n) h
      (e ∙ ap (λ (x : ℕ). m * 2 ^ x) (shift c (s % suc n))))) powers-pos) (le_of_eq scaled))
    where
      shift : (c j : ℕ) → suc c + j ≡ suc (c + j)
      shift c j = omega arith

  below-side : (b : ℕ) → Held binary32 b → b < (t + 1) / 2 * 2 ^ (s / suc n + 126 - 150 / suc n)
      → ((t + 1) / 2 * 2 ^ (s / suc n + 126 - 150 / suc n) + b) ^ suc n < u * 2 ^ suc n * 2 ^ (149 * (suc n - 1))
  below-side b B l = go (parity t (root-digits n (suc c) g u m s t P lo hi).0)
    where
      go : Parity t → ((t + 1) / 2 * 2 ^ (s / suc n + 126 - 150 / suc n) + b) ^ suc n < u * 2 ^ suc n * 2 ^ (149 * (suc n - 1))
      go (inl e) =
          let E = 2 ^ (s / suc n + 126 - 150 / suc n) in
          let q = (t + 1) / 2 in
          lt_of_lt_of_le (pow-lt-pow_left
          (lt_of_lt_of_le (more (q * E) b l) (le_of_eq (sym (add-mul q q E) ∙ ap (λ (x : ℕ). x * E) (sym e)))) not-zero) lower
      go (inr o) =
          let K = s / suc n + 126 - 150 / suc n in
          let p = t / 2 in
          let l' : b < suc p * 2 ^ K = lt_of_lt_of_le l (le_of_eq (ap (λ (x : ℕ). x * 2 ^ K) o.1)) in
          lt_of_le_of_lt
          (pow-le-pow_left
          (le_trans (le_of_eq (ap (λ (x : ℕ). x * 2 ^ K + b) o.1))
          (le_trans (more_le (suc p * 2 ^ K) b (p * 2 ^ K) (spaced_down binary32 K b B p (λ _. o.3) l'))
          (le_of_eq (sym (add-mul (suc p) p (2 ^ K)) ∙ ap (λ (x : ℕ). x * 2 ^ K) (sym o.2)))))
          (suc n))
          (lower-odd o.0)

  nearer : (b : ℕ) → Held binary32 b → Nearer (suc n) u ((t + 1) / 2 * 2 ^ (s / suc n + 126 - 150 / suc n)) b
  nearer b B = (
    λ l.
        lt_of_lt_of_le upper
        (pow-le-pow_left
        (over t ((t + 1) / 2) (2 ^ (s / suc n + 126 - 150 / suc n)) b (covers t)
        (spaced_up binary32 (s / suc n + 126 - 150 / suc n) b B ((t + 1) / 2) (λ _. (half n (suc c) g u m s t P lo hi).0) l))
        (suc n)),
    λ l. below-side b B l,
  )

-- ---- what `odd` makes
odd-finite : (d : ℕ) (s : Bool) (q k l : ℕ) → T (finite (odd d s q k l)) × (negative (odd d s q k l) ≡ s)
unfolding odd
odd-finite d s zero k l = (tt, refl)
odd-finite d s (suc q) k l = (tt, refl)

-- ---- the theorem, for a degree n with what the definition takes of it: n divides 150, and a root's exponent stays in range
record Degree (n : ℕ) : Type 0 where
  divides : 150 / n * n ≡ 150
  few : 150 / n ≤ 126
  room : (s : ℕ) → s ≤ 277 → s / n + 126 - 150 / n ≤ 252

module _ (n c : ℕ) (g : 24 * suc n + 1 ≡ 24 + suc c) (D : Degree (suc n)) where
  of_split : (b : Bool) (u m s : ℕ) → Split u m s → NearestRoot (suc n) b u (root_of_units (suc n) b u)
  of_split b u m s P =
      let W = m * 2 ^ (suc c + s % suc n) in
      let t = iroot (suc n) W in
      let I = iroot_spec n W in
      let H = half n (suc c) g u m s t P I.0 I.1 in
      let K = s / suc n + 126 - 150 / suc n in
      let q = (t + 1) / 2 in
      let r = odd 25 b q K 149 in
      let O = odd-finite 25 b q K 149 in
      let F = made-fits binary32 b q K H.1 (lt_of_le_of_lt (mul-le-mul H.1 (pow_mono (D.room s P.far))) (lit< tt)) in
      let Z = mag-val binary32 r b (q * 2 ^ K) F (odd_sign 25 b q K 149) in
      subst (λ (x : Float). NearestRoot (suc n) b u x) (sym (root_is n (suc c) g u m s t P I.0 I.1 b))
      (record {
        is = record { fit = F; finite = O.0 };
        sign = O.1;
        nearest =
            λ y Y. subst (λ (a : ℕ). Nearer (suc n) u a (mag binary32 y)) (sym Z)
            (nearer n c g D.divides D.few u m s t P I.0 I.1 (mag binary32 y) (held Y));
      })

  -- the root of every finite value that is not zero, with either sign
  nearest : {x : Float} (b : Bool) → Fin binary32 x → 0 < mag binary32 x
      → NearestRoot (suc n) b (mag binary32 x) (root_of_units (suc n) b (mag binary32 x))
  nearest {x} b p h = let d = halved p h in of_split b (mag binary32 x) d.m d.s d.split

pub nearest_2 : {x : Float} (b : Bool) → Fin binary32 x → 0 < mag binary32 x → NearestRoot 2 b (mag binary32 x) (root_of_units 2 b (mag binary32 x))
nearest_2 b p h = nearest 1 24 refl (record { divides = refl; few = lit≤ tt; room = small }) b p h
  where
    small : (s : ℕ) → s ≤ 277 → s / 2 + 126 - 75 ≤ 252
    small s h = omega arith

pub nearest_3 : {x : Float} (b : Bool) → Fin binary32 x → 0 < mag binary32 x → NearestRoot 3 b (mag binary32 x) (root_of_units 3 b (mag binary32 x))
nearest_3 b p h = nearest 2 48 refl (record { divides = refl; few = lit≤ tt; room = small }) b p h
  where
    small : (s : ℕ) → s ≤ 277 → s / 3 + 126 - 50 ≤ 252
    small s h = omega arith

-- ---- the two roots of document 01, at every f32
some : (m : ℕ) → T (not (eqb (suc m) 0))
some m = rw (eqb-suc-zero m) tt

pub finite-above : (s : Bool) (m : ℕ) (e : ℤ) → T (fits binary32 (fin s (suc m) e))
    → Fin binary32 (fin s (suc m) e) × (0 < mag binary32 (fin s (suc m) e))
finite-above s m e F = (record { fit = F; finite = tt }, mag-pos binary32 s (suc m) e F (some m))

pub sqrt_is : (x : Float) → T (fits binary32 x) → IsSqrt x (sqrt_of x)
unfolding sqrt_of
sqrt_is nan F = refl
sqrt_is (inf false) F = refl
sqrt_is (inf true) F = refl
sqrt_is (fin s zero e) F = refl
sqrt_is (fin false (suc m) e) F = let p = finite-above false m e F in nearest_2 false p.0 p.1
sqrt_is (fin true (suc m) e) F = refl

pub cbrt_is : (x : Float) → T (fits binary32 x) → IsCbrt x (cbrt_of x)
unfolding cbrt_of
cbrt_is nan F = refl
cbrt_is (inf s) F = refl
cbrt_is (fin s zero e) F = refl
cbrt_is (fin s (suc m) e) F = let p = finite-above s m e F in nearest_3 s p.0 p.1

-- ---- nearer to one is farther from the other, so of two numbers' nearest roots the larger number's is the larger, or the same
clash : (n : ℕ) {u v a b : ℕ} → u ≤ v → Nearer n u a b → Nearer n v b a → b < a → ⊥
clash n {u} {v} {a} {b} h X Y l =
    lt_irrefl _ (lt_of_lt_of_le (Y.0 l)
    (le_trans (le_of_eq (ap (λ (z : ℕ). z ^ n) (add_comm b a)))
    (le_trans (le_of_lt (X.1 l)) (mul-le-mul_right (2 ^ (149 * (n - 1))) (mul-le-mul_right (2 ^ n) h)))))

pub root_mono : {n : ℕ} {s t : Bool} {u v : ℕ} {x y : Float} → NearestRoot n s u x → NearestRoot n t v y → u ≤ v → mag binary32 x ≤ mag binary32 y
root_mono {n} {x = x} {y = y} X Y h =
    le_of_suc-le-suc (lt_of_not-le (λ (l : suc (mag binary32 y) ≤ mag binary32 x). clash n h (X.nearest y Y.is) (Y.nearest x X.is) l))

-- ---- and the only one: two floats that are each the nearest are the same
pub only : {n : ℕ} {s : Bool} {u : ℕ} {x y : Float} → NearestRoot n s u x → NearestRoot n s u y → x ≡ y
only {u = u} X Y = same_float X.is Y.is (X.sign ∙ sym Y.sign) (le_antisymm (root_mono X Y (le_refl u)) (root_mono Y X (le_refl u)))

pub sqrt-only : (x r : Float) → T (fits binary32 x) → IsSqrt x r → r ≡ sqrt_of x
unfolding sqrt_of
sqrt-only nan r F h = h
sqrt-only (inf false) r F h = h
sqrt-only (inf true) r F h = h
sqrt-only (fin s zero e) r F h = h
sqrt-only (fin false (suc m) e) r F h = only h (sqrt_is (fin false (suc m) e) F)
sqrt-only (fin true (suc m) e) r F h = h

pub cbrt-only : (x r : Float) → T (fits binary32 x) → IsCbrt x r → r ≡ cbrt_of x
unfolding cbrt_of
cbrt-only nan r F h = h
cbrt-only (inf s) r F h = h
cbrt-only (fin s zero e) r F h = h
cbrt-only (fin s (suc m) e) r F h = only h (cbrt_is (fin s (suc m) e) F)
