-- The whole part of an n-th root, for any n above 0: `iroot n v` is the one q with q ^ n ≤ v < (q + 1) ^ n, since each digit is set exactly where
-- the power stays at most v. A radicand that is 2 ^ (d * n) times another has the other's root in its leading digits. The law of both roots'
-- rounding, `rounded`, is at the end. Assumes nothing.
use Rattle.std.proofs.Common.{◌≡◌, ℕ, zero, suc, ◌+◌, ◌-◌, ◌*◌, ◌/◌, ◌^◌, ◌<◌, ◌≤◌, Bool, true, false, cond, not, T, leb, sym, ap, ◌∙◌, subst, zero-le, le_trans, le_of_eq, lt_of_lt_of_le, le_of_suc-le-suc, lt_of_le_of_lt, add_assoc, mul-le-mul_right, mul_assoc, mul_comm, div-lt_iff_lt-mul, le_antisymm, mul-lt-mul_of_pos_right, one-mul, pow-suc, mul-zero, le-div_iff_mul-le, zero-add, mul_left_comm, add-one, arith, leb→le, pow_pos, pow-add}
use native.Mathlib.Nat.{two-pow-succ}
use lib.Dec.{nleb→lt}
use lib.Ieee.{size, odd}
use lib.Ieee.Digits.{size-lt}
use Rattle.floatlaws.specs.Whole.{mul_pow, pow_pow, root_lt, size_exact}
use Rattle.float.specs.Root.{digits, iroot, root_of_units}

-- ---- the digits
digits_spec : (n v k q : ℕ) → q ^ n ≤ v → v < (q + 2 ^ k) ^ n → (digits n v k q ^ n ≤ v) × (v < (digits n v k q + 1) ^ n)
unfolding digits
digits_spec n v zero q lo hi = (lo, hi)
digits_spec n v (suc k) q lo hi = go (leb ((q + 2 ^ k) ^ n) v) (leb→le ((q + 2 ^ k) ^ n) v) (nleb→lt ((q + 2 ^ k) ^ n) v) (digits_spec n v k)
  where
    go : (b : Bool) → (T b → (q + 2 ^ k) ^ n ≤ v) → (T (not b) → v < (q + 2 ^ k) ^ n)
        → ((p : ℕ) → p ^ n ≤ v → v < (p + 2 ^ k) ^ n → (digits n v k p ^ n ≤ v) × (v < (digits n v k p + 1) ^ n))
        → (digits n v k (cond b (q + 2 ^ k) q) ^ n ≤ v) × (v < (digits n v k (cond b (q + 2 ^ k) q) + 1) ^ n)
    go true y z ih =
        ih (q + 2 ^ k) (y tt) (subst (λ (x : ℕ). v < x ^ n) (ap (λ (x : ℕ). q + x) (two-pow-succ k) ∙ sym (add_assoc q (2 ^ k) (2 ^ k))) hi)
    go false y z ih = ih q lo (z tt)

pub iroot_spec : (n v : ℕ) → (iroot (suc n) v ^ suc n ≤ v) × (v < (iroot (suc n) v + 1) ^ suc n)
unfolding iroot
iroot_spec n v =
    digits_spec (suc n) v (size v) 0
    (le_trans (le_of_eq (pow-suc 0 n ∙ mul-zero (0 ^ n))) zero-le)
    (lt_of_lt_of_le (size-lt v)
    (le_trans (le_of_eq (sym (one-mul (2 ^ size v))))
    (le_trans (mul-le-mul_right (2 ^ size v) (le_trans (pow_pos (size v * n)) (le_of_eq (sym (pow_pow 2 (size v) n)))))
    (le_of_eq (sym (pow-suc (2 ^ size v) n) ∙ ap (λ (x : ℕ). x ^ suc n) (sym (zero-add (2 ^ size v))))))))

-- ---- the leading digits of a root: t is the root of w, and v is 2 ^ d times as large in its root
module _ (n t w d v : ℕ) (lo : t ^ suc n ≤ w) (hi : w < (t + 1) ^ suc n) (e : v ≡ w * (2 ^ d) ^ suc n) where
  above : t * 2 ^ d ≤ iroot (suc n) v
  above =
      le_of_suc-le-suc (subst (λ (x : ℕ). t * 2 ^ d < x) (add-one (iroot (suc n) v))
      (root_lt (suc n) (lt_of_le_of_lt
      (le_trans (le_of_eq (mul_pow t (2 ^ d) (suc n))) (le_trans (mul-le-mul_right ((2 ^ d) ^ suc n) lo) (le_of_eq (sym e)))) (iroot_spec n v).1)))

  below : iroot (suc n) v < (t + 1) * 2 ^ d
  below =
      root_lt (suc n) (lt_of_le_of_lt (iroot_spec n v).0
      (lt_of_le_of_lt (le_of_eq e)
      (lt_of_lt_of_le (mul-lt-mul_of_pos_right hi (subst (λ (x : ℕ). 0 < x) (sym (pow_pow 2 d (suc n))) (pow_pos (d * suc n))))
      (le_of_eq (sym (mul_pow (t + 1) (2 ^ d) (suc n)))))))

  pub cut : iroot (suc n) v / 2 ^ d ≡ t
  cut =
      le_antisymm (le_of_suc-le-suc (subst (λ (x : ℕ). iroot (suc n) v / 2 ^ d < x) (add-one t) ((div-lt_iff_lt-mul (pow_pos d)).1 below)))
      ((le-div_iff_mul-le (pow_pos d)).1 above)

  pub long : (p : ℕ) → 2 ^ p ≤ t → t < 2 ^ suc p → size (iroot (suc n) v) ≡ suc (p + d)
  long p a b =
      size_exact (p + d) (iroot (suc n) v) (le_trans (le_of_eq (pow-add 2 p d)) (le_trans (mul-le-mul_right (2 ^ d) a) above))
      (lt_of_lt_of_le below (le_trans (mul-le-mul_right (2 ^ d) (le_trans (le_of_eq (add-one t)) b))
      (le_of_eq (sym (pow-add 2 (suc p) d) ∙ ap (λ (x : ℕ). 2 ^ x) (shift p d)))))
    where
      shift : (p d : ℕ) → suc p + d ≡ suc (p + d)
      shift p d = omega arith

-- ---- the law of the rounding. u, in units, is m * 2 ^ (s - 24), and s is d * n + j; t is the root of m * 2 ^ (c + j), and has 25 digits. For the
-- square root c is 25, and for the cube root 49.
pub radicand : (n c u m s d j : ℕ) → u * 2 ^ 24 ≡ m * 2 ^ s → s ≡ d * n + j → u * 2 ^ (24 + c) ≡ m * 2 ^ (c + j) * (2 ^ d) ^ n
radicand n c u m s d j e f =
    ap (λ (x : ℕ). u * x) (pow-add 2 24 c)
    ∙ sym (mul_assoc u (2 ^ 24) (2 ^ c))
    ∙ ap (λ (x : ℕ). x * 2 ^ c) (e ∙ ap (λ (x : ℕ). m * 2 ^ x) f ∙ ap (λ (x : ℕ). m * x) (pow-add 2 (d * n) j))
    ∙ ap (λ (x : ℕ). m * (x * 2 ^ j) * 2 ^ c) (sym (pow_pow 2 d n))
    ∙ turn m ((2 ^ d) ^ n) (2 ^ j) (2 ^ c)
    ∙ ap (λ (x : ℕ). m * x * (2 ^ d) ^ n) (sym (pow-add 2 c j))
  where
    turn : (m a b c : ℕ) → m * (a * b) * c ≡ m * (c * b) * a
    turn m a b c = simp (mul_assoc, mul_comm, mul_left_comm)

pub rounded : (n c u m s d j t : ℕ) (b : Bool) → u * 2 ^ 24 ≡ m * 2 ^ s → s ≡ d * suc n + j → 24 * suc n + 1 ≡ 24 + c → t ^ suc n ≤ m * 2 ^ (c + j)
    → m * 2 ^ (c + j) < (t + 1) ^ suc n → 16777216 ≤ t → t < 33554432
    → root_of_units (suc n) b u ≡ odd 25 b ((t + 1) / 2) (d + 126 - 150 / suc n) 149
unfolding root_of_units
rounded n c u m s d j t b e f g lo hi t-lo t-hi =
    let v = u * 2 ^ (24 * suc n + 1) in
    let r = iroot (suc n) v in
    let q : v ≡ m * 2 ^ (c + j) * (2 ^ d) ^ suc n = ap (λ (x : ℕ). u * 2 ^ x) g ∙ radicand (suc n) c u m s d j e f in
    let z : size r - 25 ≡ d = ap (λ (x : ℕ). x - 25) (long n t (m * 2 ^ (c + j)) d v lo hi q 24 t-lo t-hi) ∙ less d in
    ap (λ (x : ℕ). odd 25 b ((r / 2 ^ x + 1) / 2) (x + 126 - 150 / suc n) 149) z
    ∙ ap (λ (x : ℕ). odd 25 b ((x + 1) / 2) (d + 126 - 150 / suc n) 149) (cut n t (m * 2 ^ (c + j)) d v lo hi q)
  where
    less : (d : ℕ) → suc (24 + d) - 25 ≡ d
    less d = omega arith
