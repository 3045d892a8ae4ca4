-- How far a rounded number is from the number. With v = a / c units, of 2 ^ (prec - 1) units at least and not rounded to an infinity, the rounded
-- number is within v / 2 ^ prec of v (`relative`); and below 2 ^ prec units it is within half a unit (`absolute`). Both are said with the
-- denominators multiplied out, and once more for a float that is rounded from v (`Rounds`). Assumes nothing.
use Rattle.std.specs.Prelude.{◌≡◌, false, not, T, Float}
use Rattle.std.proofs.Common.{sym, ap, ◌∙◌, le_trans, le_of_eq, lt_of_lt_of_le, not-le_of_lt, lt_of_not-le, lt_of_le_of_lt, le_of_lt, one-mul, add-mul, mul-add, mul-one, mul_comm, mul_assoc, mul_left_comm, mul_right_comm, mul-pos, mul-le-mul_right, mul-le-mul_left, lt_of_mul-lt-mul_right, mul-lt-mul_of_pos_right, le_of_mul-le-mul_right, le-div_iff_mul-le, div-lt_iff_lt-mul, arith, lit<, pow-add, pow_pos}
use Prim.Native.Nat.{ℕ, suc, ◌+◌, ◌-◌, ◌*◌, ◌/◌, ◌%◌, ◌^◌, ◌≤◌, ◌<◌, compare}
use Rattle.std.proofs.Math.Nat.{eq_of_mul-eq-mul_right}
use Rattle.std.proofs.Math.Decide.{dec_le}
use Rattle.std.proofs.Math.Pow.{pow-lt}
use Rattle.std.specs.Float.{nan, inf, fin, Format, binary32, binary64}
use Rattle.std.specs.Float.Ieee.{prec, emax, low, size, round, is_nan}
use Rattle.std.specs.Float.Ieee.Digits.{size-le, size_reaches}
use Rattle.std.specs.Float.Ieee.Fits.{round-fits, two, two-le_pos}
use Rattle.std.specs.Float.Ieee.Nearest.{closest, nearest-ge}
use Rattle.std.specs.Float.Ieee.Order.{drop, kept}
use Rattle.std.specs.Float.Ieee.Scale.{grid, overflow, finite, round_val, round_under, normal_of_fraction}
use Rattle.floatlaws.specs.Whole.{half_pow, closest-near}
use Rattle.floatlaws.specs.Value.{limit, mag, hi, mag_of_value, overflow_le_big}
use Rattle.floatlaws.specs.Near.{near, near-exact, round-num, Rounds}

-- ---- a fraction to the nearest whole number: half of one away at most
-- x is y to within e
abbrev pub Within : ℕ → ℕ → ℕ → Type 0
Within x y e = (x ≤ y + e) × (y ≤ x + e)

-- ---- the rounded number, by the number that `round` keeps and the digits that it drops
near-grid : (f : Format) (a c : ℕ) → near f a c < overflow f → near f a c ≡ grid f a (c * 2 ^ low f)
unfolding near mag is_nan
near-grid f a c h =
    let c' = c * 2 ^ low f in
    let x = round f false a c' in
    eq_of_mul-eq-mul_right (2 ^ low f) (pow_pos (low f)) (mag f x) (grid f a c')
    (mag_of_value f x false (grid f a c') (2 ^ low f) (round-fits f false a c')
    (round_val f a c' (round_under f a c' (fin_of_mag x (round-num f false a c').real h))))
  where
    fin_of_mag : (x : Float) → T (not (is_nan x)) → mag f x < overflow f → T (finite x)
    fin_of_mag nan r h = absurd r
    fin_of_mag (inf s) r h = absurd (not-le_of_lt h (overflow_le_big f))
    fin_of_mag (fin s m e) r h = tt

-- a common factor
cancel : (x y z l : ℕ) → 0 < l → Within (x * l) (y * l) (z * l) → Within x y z
cancel x y z l L h =
    (le_of_mul-le-mul_right {k = l} (omega (arith, add-mul y z l)) L, le_of_mul-le-mul_right {k = l} (omega (arith, add-mul x z l)) L)

-- how many digits the whole part of a / c has, and how many of them are dropped
abbrev wide : Format → ℕ → ℕ → ℕ
wide f a c = size (a * 2 ^ low f / (c * 2 ^ low f))

abbrev lost : Format → ℕ → ℕ → ℕ
lost f a c = drop (prec f) (a * 2 ^ low f) (c * 2 ^ low f)

-- with k digits dropped, half of 2 ^ k units away at most
near-err : (f : Format) (a c : ℕ) → 0 < c → near f a c < overflow f → Within (near f a c * c * 2) (a * 2) (c * 2 ^ lost f a c)
near-err f a c C h =
    cancel (near f a c * c * 2) (a * 2) (c * k) l (pow_pos (low f))
    (rw (← g, mul_right_comm a 2 l, mul_right_comm c k l)
    (closest-near (a * l) (c * l * k) (mul-pos (mul-pos C (pow_pos (low f))) (pow_pos (lost f a c)))))
  where
    l : ℕ
    l = 2 ^ low f

    k : ℕ
    k = 2 ^ lost f a c

    ac : (x c l k : ℕ) → x * (c * l * k) * 2 ≡ x * k * c * 2 * l
    ac x c l k = simp (mul_assoc, mul_comm, mul_left_comm)

    g : closest (a * l) (c * l * k) * (c * l * k) * 2 ≡ near f a c * c * 2 * l
    g = rw (near-grid f a c h) (ac (closest (a * l) (c * l * k)) c l k)

-- where there are `prec` digits or more, that many are kept, and what is dropped is 1 part in 2 ^ (prec - 1) of the whole
module _ (f : Format) (a c : ℕ) (C : 0 < c) (N : prec f ≤ wide f a c) where
  reached : 2 ^ (prec f - 1) * (c * 2 ^ low f * 2 ^ lost f a c) ≤ a * 2 ^ low f
  reached =
      let p = prec f in
      let l = 2 ^ low f in
      let z = wide f a c in
      le_trans
      (le_of_eq (ac (2 ^ (p - 1)) (2 ^ (z - p)) (c * l) ∙ ap (λ (x : ℕ). x * (c * l)) (sym (pow-add 2 (p - 1) (z - p)))))
      ((le-div_iff_mul-le (mul-pos C (pow_pos (low f)))).0
      (size_reaches (a * l / (c * l)) (p - 1 + (z - p)) (last_digit p z (two-le_pos p (two f)) N)))
    where
      ac : (x y c : ℕ) → x * (c * y) ≡ x * y * c
      ac x y c = simp (mul_assoc, mul_comm)

      last_digit : (p z : ℕ) → 0 < p → p ≤ z → p - 1 + (z - p) < z
      last_digit p z P h = omega arith

  dropped : c * 2 ^ lost f a c * 2 ^ (prec f - 1) ≤ a
  dropped =
      le_of_mul-le-mul_right {k = 2 ^ low f} (le_trans (le_of_eq (ac (2 ^ (prec f - 1)) (2 ^ lost f a c) c (2 ^ low f))) reached) (pow_pos (low f))
    where
      ac : (x y c l : ℕ) → c * y * x * l ≡ x * (c * l * y)
      ac x y c l = simp (mul_assoc, mul_comm, mul_left_comm)

  full : 2 ^ (prec f - 1) ≤ kept (prec f) (a * 2 ^ low f) (c * 2 ^ low f)
  full =
      let n = a * 2 ^ low f in
      let d = c * 2 ^ low f * 2 ^ lost f a c in
      le_trans ((le-div_iff_mul-le (mul-pos (mul-pos C (pow_pos (low f))) (pow_pos (lost f a c)))).1 reached)
      (nearest-ge (n / d) (compare (n % d * 2) d))

-- ---- the rounded number as q * 2 ^ k units: where digits are dropped, `prec` of them are kept
pub record Kept (f : Format) (a c : ℕ) : Type 0 where
  pub q : ℕ
  pub k : ℕ
  pub is : near f a c ≡ q * 2 ^ k
  pub err : Within (near f a c * c * 2) (a * 2) (c * 2 ^ k)
  pub least : 0 < k → c * 2 ^ k * 2 ^ (prec f - 1) ≤ a
  pub full : 0 < k → 2 ^ (prec f - 1) ≤ q

pub near-kept : (f : Format) (a c : ℕ) → 0 < c → near f a c < overflow f → Kept f a c
near-kept f a c C h = record {
  q = kept (prec f) (a * 2 ^ low f) (c * 2 ^ low f);
  k = lost f a c;
  is = near-grid f a c h;
  err = near-err f a c C h;
  least = λ l. dropped f a c C (some (wide f a c) (prec f) l);
  full = λ l. full f a c C (some (wide f a c) (prec f) l);
}
  where
    some : (z p : ℕ) → 0 < z - p → p ≤ z
    some z p l = omega arith

-- ---- the two bounds
widen : (x y z w n : ℕ) → Within (x * 2) (y * 2) z → z * n ≤ w → Within (x * (n * 2)) (y * (n * 2)) w
widen x y z w n h k =
    rw (ac x, ac y)
    (omega (arith, mul-le-mul_right n h.0, add-mul (y * 2) z n), omega (arith, mul-le-mul_right n h.1, add-mul (x * 2) z n))
  where
    ac : (x : ℕ) → x * (n * 2) ≡ x * 2 * n
    ac x = simp (mul_assoc, mul_comm, mul_left_comm)

enough : (f : Format) (a c : ℕ) → 0 < c → 2 ^ (prec f - 1) * c ≤ a → prec f ≤ wide f a c
enough f a c C n =
    normal_of_fraction f a (c * 2 ^ low f) (mul-pos C (pow_pos (low f)))
    (le_trans (le_of_eq (sym (mul_assoc (2 ^ (prec f - 1)) c (2 ^ low f)))) (mul-le-mul_right (2 ^ low f) n))

-- a part in 2 ^ prec of the number
pub relative : (f : Format) (a c : ℕ) → 0 < c → near f a c < overflow f → 2 ^ (prec f - 1) * c ≤ a
    → Within (near f a c * c * 2 ^ prec f) (a * 2 ^ prec f) a
relative f a c C h n =
    let p = prec f in
    rw (half_pow p (two-le_pos p (two f)))
    (widen (near f a c * c) a (c * 2 ^ lost f a c) a (2 ^ (p - 1)) (near-err f a c C h) (dropped f a c C (enough f a c C n)))

-- and of the rounded number
pub relative-near : (f : Format) (a c : ℕ) → 0 < c → near f a c < overflow f → 2 ^ (prec f - 1) * c ≤ a
    → Within (near f a c * c * 2 ^ prec f) (a * 2 ^ prec f) (near f a c * c)
relative-near f a c C h n =
    let p = prec f in
    let q = kept p (a * 2 ^ low f) (c * 2 ^ low f) in
    rw (half_pow p (two-le_pos p (two f)))
    (widen (near f a c * c) a (c * 2 ^ lost f a c) (near f a c * c) (2 ^ (p - 1)) (near-err f a c C h)
    (rw (near-grid f a c h) (le_trans (le_of_eq (ac (2 ^ (p - 1)) (2 ^ lost f a c) c))
    (mul-le-mul_right c (mul-le-mul_right (2 ^ lost f a c) (full f a c C (enough f a c C n)))))))
  where
    ac : (x y c : ℕ) → c * y * x ≡ x * y * c
    ac x y c = simp (mul_assoc, mul_comm, mul_left_comm)

pub absolute : (f : Format) (a c : ℕ) → 0 < c → near f a c < overflow f → a < 2 ^ prec f * c → Within (near f a c * c * 2) (a * 2) c
absolute f a c C h n = rw (none, mul-one c) at (near-err f a c C h)
  where
    l : ℕ
    l = 2 ^ low f

    few : (z p : ℕ) → z ≤ p → z - p ≡ 0
    few z p h = omega arith

    none : drop (prec f) (a * l) (c * l) ≡ 0
    none =
        few (size (a * l / (c * l))) (prec f)
        (size-le (a * l / (c * l)) (prec f)
        ((div-lt_iff_lt-mul (mul-pos C (pow_pos (low f)))).1
        (lt_of_lt_of_le (mul-lt-mul_of_pos_right n (pow_pos (low f))) (le_of_eq (mul_assoc (2 ^ prec f) c l)))))

-- ---- a number is in the normal range where its rounded number is above 2 ^ (prec - 1) units
pub least : (f : Format) → near f (2 ^ (prec f - 1)) 1 ≡ 2 ^ (prec f - 1)
least f =
    near-exact f (2 ^ (prec f - 1)) 1 1 (prec f - 1) (pow_pos 0) (fine f) (lt_of_le_of_lt (le_of_eq (one-mul (2 ^ (prec f - 1)))) (pow-lt (room f)))
    (sym (one-mul (2 ^ (prec f - 1))) ∙ sym (mul-one (1 * 2 ^ (prec f - 1)))) ∙ one-mul (2 ^ (prec f - 1))
  where
    fine : (f : Format) → 1 < 2 ^ prec f
    fine binary32 = lit< tt
    fine binary64 = lit< tt

    room : (f : Format) → prec f - 1 < low f + suc (emax f)
    room binary32 = lit< tt
    room binary64 = lit< tt

-- ---- a float that is rounded from (P - N) / C units
-- normal: above 2 ^ (prec - 1) units, and finite
pub record Normal (f : Format) (n : ℕ) : Type 0 where
  pub least : 2 ^ (prec f - 1) < n
  pub most : n < limit f

-- ---- a ratio survives: where m * v * (2 ^ prec + 1) ≤ n * v' * (2 ^ prec - 1), the rounded numbers are in the order m * . ≤ n * .
pub ratio : (t m n x y a c b d : ℕ) → 0 < c * d * t → x * c * t ≤ a * t + a → b * t ≤ y * d * t + b
    → m * (a * d) * (t + 1) + n * (b * c) ≤ n * (b * c) * t → m * x ≤ n * y
ratio t m n x y a c b d pos p q h =
    let s1 : m * x * (c * d * t) ≡ x * c * t * (m * d) = simp (mul_assoc, mul_comm, mul_left_comm) in
    let s2 : x * c * t * (m * d) ≤ (a * t + a) * (m * d) = mul-le-mul_right (m * d) p in
    let s3 : (a * t + a) * (m * d) ≡ a * t * (m * d) + a * (m * d) = add-mul (a * t) a (m * d) in
    let s4 : a * t * (m * d) ≡ m * (a * d) * t = simp (mul_assoc, mul_comm, mul_left_comm) in
    let s5 : a * (m * d) ≡ m * (a * d) = mul_left_comm a m d in
    let s6 : m * (a * d) * (t + 1) ≡ m * (a * d) * t + m * (a * d) * 1 = mul-add (m * (a * d)) t 1 in
    let s7 : b * t * (n * c) ≤ (y * d * t + b) * (n * c) = mul-le-mul_right (n * c) q in
    let s8 : (y * d * t + b) * (n * c) ≡ y * d * t * (n * c) + b * (n * c) = add-mul (y * d * t) b (n * c) in
    let s9 : b * t * (n * c) ≡ n * (b * c) * t = simp (mul_assoc, mul_comm, mul_left_comm) in
    let s10 : b * (n * c) ≡ n * (b * c) = mul_left_comm b n c in
    let s11 : y * d * t * (n * c) ≡ n * y * (c * d * t) = simp (mul_assoc, mul_comm, mul_left_comm) in
    le_of_mul-le-mul_right {k = c * d * t} (omega arith) pos

-- one that rounds to s units at most, s in the normal range and finite, is at most s and a part in 2 ^ prec of it
pub at_most : {f : Format} {z : Float} {P N C : ℕ} (s : ℕ) → Rounds f z P N C → hi f z ≤ s → 2 ^ (prec f - 1) ≤ s → s < limit f
    → (P - N) * 2 ^ prec f ≤ s * C * (2 ^ prec f + 1)
unfolding limit
at_most {f} {z} {P} {N} {C} s r h n l = go (dec_le (2 ^ (prec f - 1) * C) (P - N))
  where
    a : ℕ
    a = P - N

    t : ℕ
    t = 2 ^ prec f

    M : near f a C ≤ s
    M = le_trans (le_of_eq (sym r.hi)) h

    wider : (x : ℕ) → x * t + x ≡ x * (t + 1)
    wider x = ap (λ (w : ℕ). x * t + w) (sym (mul-one x)) ∙ sym (mul-add x t 1)

    go : Dec (2 ^ (prec f - 1) * C ≤ P - N) → (P - N) * 2 ^ prec f ≤ s * C * (2 ^ prec f + 1)
    go (yes k) =
        le_trans (relative-near f a C r.below (lt_of_le_of_lt M l) k).1
        (le_trans (le_of_eq (wider (near f a C * C))) (mul-le-mul_right (t + 1) (mul-le-mul_right C M)))
    go (no k) =
        let b : a ≤ s * C = le_trans (le_of_lt (lt_of_not-le k)) (mul-le-mul_right C n) in
        le_trans (mul-le-mul_right t b) (mul-le-mul_left (s * C) (more t))
      where
        more : (t : ℕ) → t ≤ t + 1
        more t = omega arith

-- ---- a number that is twice another at least, and rounds into the normal range, rounds above it
pub half-below : (t x y a c b d : ℕ) → 0 < c * d * t → 4 ≤ t → x * c * t ≤ a * t + a → b * t ≤ y * d * t + b → 2 * (a * d) ≤ b * c → 0 < b * c → x < y
half-below t x y a c b d pos four p q h B =
    lt_of_mul-lt-mul_right (c * d * t)
    (let s1 : x * (c * d * t) ≡ x * c * t * d = simp (mul_assoc, mul_comm, mul_left_comm) in
    let s2 : x * c * t * d ≤ (a * t + a) * d = mul-le-mul_right d p in
    let s3 : (a * t + a) * d ≡ a * d * t + a * d = simp (add-mul, mul_assoc, mul_comm, mul_left_comm) in
    let s4 : b * t * c ≤ (y * d * t + b) * c = mul-le-mul_right c q in
    let s5 : (y * d * t + b) * c ≡ y * (c * d * t) + b * c = simp (add-mul, mul_assoc, mul_comm, mul_left_comm) in
    let s6 : b * t * c ≡ b * c * t = mul_right_comm b t c in
    let s7 : a * d * t * 2 ≤ b * c * t = le_trans (le_of_eq (simp (mul_assoc, mul_comm, mul_left_comm))) (mul-le-mul_right t h) in
    let s8 : b * c * 4 ≤ b * c * t = mul-le-mul_left (b * c) four in
    omega arith)
