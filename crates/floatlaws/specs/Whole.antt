-- Whole numbers, for the laws of the floats: powers of two, how many binary digits a number has (`size`), and a fraction to the nearest whole
-- number (`closest`). A number from 2 ^ j on has more than j digits, and one below 2 ^ j has at most j: both sides pin `size`. Nothing here is
-- about floats. Assumes nothing.
use Rattle.std.specs.Prelude.{◌≡◌, refl, ◌⊎◌, not, T, eqb}
use Rattle.std.proofs.Common.{sym, ap, ◌∙◌, subst, inl, inr, le_trans, le_of_eq, le_antisymm, le_of_suc-le-suc, lt_of_le_of_lt, lt_of_not-le, not-le_of_lt, lt_irrefl, eq-zero-or-pos, add-mul, mul-zero, mul-suc, suc-mul, pow-suc, div-add-mod', mod-lt, mod-eq_of_lt, le-div_iff_mul-le, add-one, arith, leb→le, eqb→eq, pow-add, pow_pos, pow_mono, shr_lt}
use Prim.Native.Nat.{ℕ, zero, suc, ◌+◌, ◌-◌, ◌*◌, ◌/◌, ◌%◌, ◌^◌, ◌≤◌, ◌<◌, compare, Ordering}
use Rattle.std.proofs.Math.Nat.{mul-mul-mul_comm, pow-zero, pow-le-pow_left, div-eq_of_lt, div-eq_of_lt-le}
use Rattle.std.proofs.Math.Dec.{is_le, compare_is_eq, nleb→lt, eqb_refl}
use Rattle.std.proofs.Math.Arith.{lt_of_le-ne}
use Rattle.std.proofs.Math.Pow.{pow-lt}
use Rattle.std.specs.Float.Ieee.{size, nearest}
use Rattle.std.specs.Float.Ieee.Digits.{size-lt, size-le}
use Rattle.std.specs.Float.Ieee.Fits.{nearest-le}
use Rattle.std.specs.Float.Ieee.Nearest.{closest, nearest-ge}

-- ---- powers
pub mul_pow : (a b n : ℕ) → (a * b) ^ n ≡ a ^ n * b ^ n
mul_pow a b zero = pow-zero (a * b) ∙ sym (ap (λ (x : ℕ). x * b ^ 0) (pow-zero a) ∙ ap (λ (x : ℕ). 1 * x) (pow-zero b))
mul_pow a b (suc n) =
    pow-suc (a * b) n
    ∙ ap (λ (x : ℕ). x * (a * b)) (mul_pow a b n)
    ∙ mul-mul-mul_comm (a ^ n) (b ^ n) a b
    ∙ ap (λ (x : ℕ). x * (b ^ n * b)) (sym (pow-suc a n))
    ∙ ap (λ (x : ℕ). a ^ suc n * x) (sym (pow-suc b n))

pub pow_pow : (a d n : ℕ) → (a ^ d) ^ n ≡ a ^ (d * n)
pow_pow a d zero = pow-zero (a ^ d) ∙ sym (ap (λ (x : ℕ). a ^ x) (mul-zero d) ∙ pow-zero a)
pow_pow a d (suc n) =
    pow-suc (a ^ d) n
    ∙ ap (λ (x : ℕ). x * a ^ d) (pow_pow a d n)
    ∙ sym (pow-add a (d * n) d)
    ∙ ap (λ (x : ℕ). a ^ x) (sym (mul-suc d n))

-- the order of n-th powers is the order of the numbers, and the order of powers of two that of the exponents
pub root_lt : (n : ℕ) {a b : ℕ} → a ^ n < b ^ n → a < b
root_lt n {a} {b} h = lt_of_not-le (λ (g : b ≤ a). not-le_of_lt h (pow-le-pow_left g n))

pub exp_lt : {i j : ℕ} → 2 ^ i < 2 ^ j → i < j
exp_lt {i} {j} h = lt_of_not-le (λ (g : j ≤ i). not-le_of_lt h (pow_mono g))

pub exp_le : {i j : ℕ} → 2 ^ i ≤ 2 ^ j → i ≤ j
exp_le {i} {j} h = le_of_suc-le-suc (lt_of_not-le (λ (g : suc j ≤ i). not-le_of_lt (pow-lt g) h))

pub half_pow : (p : ℕ) → 0 < p → 2 ^ p ≡ 2 ^ (p - 1) * 2
half_pow zero h = absurd (lt_irrefl 0 h)
half_pow (suc p) h = pow-suc 2 p ∙ ap (λ (x : ℕ). 2 ^ x * 2) (sym (one_less p))
  where
    one_less : (p : ℕ) → suc p - 1 ≡ p
    one_less p = omega arith

-- ---- how many binary digits
pub size_gt : (n j : ℕ) → 2 ^ j ≤ n → j < size n
size_gt n j h = exp_lt (lt_of_le_of_lt h (size-lt n))

pub size_exact : (a v : ℕ) → 2 ^ a ≤ v → v < 2 ^ suc a → size v ≡ suc a
size_exact a v lo hi = le_antisymm (size-le v (suc a) hi) (size_gt v a lo)

-- w has p + b digits, or at most p where b is 0: it has b more than p
pub size_at : (p b w : ℕ) → 0 < p → w < 2 ^ (p + b) → (0 < b → 2 ^ (p - 1 + b) ≤ w) → size w - p ≡ b
size_at p b w P hi lo = go (eq-zero-or-pos b)
  where
    few : (z : ℕ) → z ≤ p + b → b ≡ 0 → z - p ≡ b
    few z a e = omega arith

    all : (z : ℕ) → 0 < p → z ≤ p + b → p - 1 + b < z → z - p ≡ b
    all z q a l = omega arith

    go : (b ≡ 0) ⊎ (0 < b) → size w - p ≡ b
    go (inl e) = few (size w) (size-le w (p + b) hi) e
    go (inr l) = all (size w) P (size-le w (p + b) hi) (size_gt w (p - 1 + b) (lo l))

-- ---- what a comparison found
abbrev pub Cmp : Ordering → ℕ → ℕ → Type 0
Cmp Ordering.lt a b = a < b
Cmp Ordering.eq a b = a ≡ b
Cmp Ordering.gt a b = b < a

pub cmp : (a b : ℕ) → Cmp (compare a b) a b
cmp a b = go (compare a b) (leb→le a b) (nleb→lt a b) (eqb→eq a b) (λ (e : a ≡ b). subst (λ (x : ℕ). T (eqb a x)) e (eqb_refl a))
  where
    go : (o : Ordering) → (T (is_le o) → a ≤ b) → (T (not (is_le o)) → b < a) → (T (compare_is_eq o) → a ≡ b) → (a ≡ b → T (compare_is_eq o)) → Cmp o a b
    go Ordering.lt h k e n = lt_of_le-ne (h tt) n
    go Ordering.eq h k e n = e tt
    go Ordering.gt h k e n = k tt

-- ---- the nearest whole number to a / b is at most half of one away: twice the remainder against b says which of the two neighbours
pub closest-near : (a b : ℕ) → 0 < b → (closest a b * b * 2 ≤ a * 2 + b) × (a * 2 ≤ closest a b * b * 2 + b)
closest-near a b B = go (compare (a % b * 2) b) (cmp (a % b * 2) b)
  where
    q : ℕ
    q = a / b

    r : ℕ
    r = a % b

    is : q * b + r ≡ a
    is = div-add-mod' a b

    few : r < b
    few = mod-lt a B

    tie : (t : ℕ) → t ≤ 1 → r * 2 ≡ b → ((q + t) * b * 2 ≤ a * 2 + b) × (a * 2 ≤ (q + t) * b * 2 + b)
    tie zero h e = omega (arith, is, few, add-mul q 0 b)
    tie (suc zero) h e = omega (arith, is, few, add-mul q 1 b)
    tie (suc (suc t)) h e = absurd (big_t t h)
      where
        big_t : (t : ℕ) → suc (suc t) ≤ 1 → ⊥
        big_t t h = omega arith

    bit : (n : ℕ) → n % 2 ≤ 1
    bit n = omega arith

    go : (o : Ordering) → Cmp o (r * 2) b → (nearest q o * b * 2 ≤ a * 2 + b) × (a * 2 ≤ nearest q o * b * 2 + b)
    go Ordering.lt c = omega (arith, is, few)
    go Ordering.eq c = tie (q % 2) (bit q) c
    go Ordering.gt c = omega (arith, is, few, suc-mul q b)

-- q is the whole number nearest to a / b, a tie going to the even one: at most a half away, and even where it is a half
pub record NearestWhole (a b q : ℕ) : Type 0 where
  pub from-above : q * b * 2 ≤ a * 2 + b
  pub from-below : a * 2 ≤ q * b * 2 + b
  pub tie-above : q * b * 2 ≡ a * 2 + b → q % 2 ≡ 0
  pub tie-below : a * 2 ≡ q * b * 2 + b → q % 2 ≡ 0

-- and `closest`, by which every result is rounded, gives it
pub closest-nearest : (a b : ℕ) → 0 < b → NearestWhole a b (closest a b)
closest-nearest a b B =
    record {
      from-above = (closest-near a b B).0;
      from-below = (closest-near a b B).1;
      tie-above = above (compare (a % b * 2) b) (cmp (a % b * 2) b);
      tie-below = below (compare (a % b * 2) b) (cmp (a % b * 2) b);
    }
  where
    is : a / b * b + a % b ≡ a
    is = div-add-mod' a b

    even_up : (w : ℕ) → (w + w % 2) % 2 ≡ 0
    even_up w = omega arith

    above : (o : Ordering) → Cmp o (a % b * 2) b → nearest (a / b) o * b * 2 ≡ a * 2 + b → nearest (a / b) o % 2 ≡ 0
    above Ordering.lt c e = absurd (omega (arith, is))
    above Ordering.eq c e = even_up (a / b)
    above Ordering.gt c e = absurd (omega (arith, is, suc-mul (a / b) b))

    below : (o : Ordering) → Cmp o (a % b * 2) b → a * 2 ≡ nearest (a / b) o * b * 2 + b → nearest (a / b) o % 2 ≡ 0
    below Ordering.lt c e = absurd (omega (arith, is))
    below Ordering.eq c e = even_up (a / b)
    below Ordering.gt c e = absurd (omega (arith, is, suc-mul (a / b) b, mod-lt a B))

-- ---- n / 2 ^ k to the nearest whole number
-- By one sum and one shift. n is w * u + r: half of u, less one, and one more where w is odd, carries into the quotient as `nearest` does.
carry : (n h u w r p : ℕ) → 0 < h → u ≡ 2 * h → p ≡ w * u → p + r ≡ n → r < u → (o : Ordering) → Cmp o (r * 2) u
    → (n + (h - 1) + w % 2) / u ≡ nearest w o
carry n h u w r p H U P E R = go
  where
    one_more : (v : ℕ) → (v + 1) * u ≡ v * u + u
    one_more v = ap (λ (y : ℕ). y * u) (add-one v) ∙ suc-mul v u

    stay : r + (h - 1) + w % 2 < u → (n + (h - 1) + w % 2) / u ≡ w
    stay l = div-eq_of_lt-le u (omega arith) (subst (λ (y : ℕ). n + (h - 1) + w % 2 < y) (ap (λ (y : ℕ). y + u) P ∙ sym (one_more w)) (omega arith))

    step : u ≤ r + (h - 1) + w % 2 → (n + (h - 1) + w % 2) / u ≡ suc w
    step l =
        let e : suc w * u ≡ p + u = suc-mul w u ∙ ap (λ (y : ℕ). y + u) (sym P) in
        div-eq_of_lt-le u (omega arith) (subst (λ (y : ℕ). n + (h - 1) + w % 2 < y) (sym (one_more (suc w))) (omega arith))

    go : (o : Ordering) → Cmp o (r * 2) u → (n + (h - 1) + w % 2) / u ≡ nearest w o
    go Ordering.lt c = stay (omega arith)
    go Ordering.eq c = elim (eq-zero-or-pos (w % 2)) [
      | inl z ↦ stay (omega arith) ∙ omega arith
      | inr z ↦ step (omega arith) ∙ omega arith
    ]
    go Ordering.gt c = step (omega arith)

pub closest_is : (n k : ℕ) → 1 ≤ k → (n + (2 ^ (k - 1) - 1) + n / 2 ^ k % 2) / 2 ^ k ≡ closest n (2 ^ k)
closest_is n k K =
    let u = 2 ^ k in
    carry n (2 ^ (k - 1)) u (n / u) (n % u) (n / u * u) (pow_pos (k - 1))
    (ap (λ (y : ℕ). 2 ^ y) (split k K) ∙ pow-add 2 1 (k - 1))
    refl
    (div-add-mod' n u)
    (mod-lt n (pow_pos k))
    (compare (n % u * 2) u)
    (cmp (n % u * 2) u)
  where
    split : (k : ℕ) → 1 ≤ k → k ≡ 1 + (k - 1)
    split k h = omega arith

pub closest-zero : (q p j : ℕ) → q < 2 ^ p → p < j → closest q (2 ^ j) ≡ 0
closest-zero q p j hi J =
    go (q / 2 ^ j) (q % 2 ^ j) (compare (q % 2 ^ j * 2) (2 ^ j))
    (div-eq_of_lt (omega (arith, twice)))
    (mod-eq_of_lt (omega (arith, twice)))
    (cmp (q % 2 ^ j * 2) (2 ^ j))
  where
    twice : 2 ^ p * 2 ≤ 2 ^ j
    twice = le_trans (le_of_eq (sym (pow-suc 2 p))) (pow_mono J)

    go : (w r : ℕ) (o : Ordering) → w ≡ 0 → r ≡ q → Cmp o (r * 2) (2 ^ j) → nearest w o ≡ 0
    go w r Ordering.lt z e c = z
    go w r Ordering.eq z e c = omega (arith, twice)
    go w r Ordering.gt z e c = omega (arith, twice)

pub closest_hi : (q p j : ℕ) → q < 2 ^ (p + j) → closest q (2 ^ j) ≤ 2 ^ p
closest_hi q p j h = le_trans (nearest-le (q / 2 ^ j) (compare (q % 2 ^ j * 2) (2 ^ j))) (shr_lt p j h)

pub closest_lo : (q p j : ℕ) → 2 ^ (p + j) ≤ q → 2 ^ p ≤ closest q (2 ^ j)
closest_lo q p j h =
    le_trans ((le-div_iff_mul-le (pow_pos j)).1 (le_trans (le_of_eq (sym (pow-add 2 p j))) h))
    (nearest-ge (q / 2 ^ j) (compare (q % 2 ^ j * 2) (2 ^ j)))
