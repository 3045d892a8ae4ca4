-- A number above zero moved up to 24 binary digits: by as many places as it has leading zeros in a word of 24 digits. Assumes nothing.
use Rattle.std.proofs.Common.{◌≡◌, ℕ, suc, ◌+◌, ◌-◌, ◌*◌, ◌/◌, ◌%◌, ◌^◌, ◌<◌, ◌≤◌, sym, ap, ◌∙◌, subst, le_trans, le_of_eq, lt_of_lt_of_le, lt_of_le_of_lt, lt_irrefl, mul-le-mul_right, mul_assoc, mul-lt-mul_of_pos_right, lt_of_not-le, mul-one, arith, lit≤, pow_pos, pow_mono, pow-add, shl_lt, shl_exact}
use lib.Count.{count_leading_zeros, leading_top}
use lib.Ieee.{Float, nan, inf, fin, binary32}
use lib.Ieee.Positive.{first_pos}
use Rattle.floatlaws.specs.Whole.{exp_lt}
use Rattle.floatlaws.specs.Value.{mag, shape, mag-shape}
use Rattle.floatlaws.specs.Finite.{Fin}
use Rattle.floatlaws.specs.Bits.{value_of, value_low, value-high}
use Rattle.float.specs.Parts.{Split}

-- j is one less than how many digits m has
pub lead : (m : ℕ) → 0 < m → m < 0x100_0000 → (j : ℕ) × (count_leading_zeros 32 m + j ≡ 31) × (j ≤ 23) × (2 ^ j ≤ m) × (m < 2 ^ suc j)
lead m h k =
    let l = leading_top 32 m h (lt_of_lt_of_le k (lit≤ tt)) in (
      l.0,
      sum (count_leading_zeros 32 m) l.0 l.1,
      at_most l.0
          (lt_of_not-le (λ (g : 24 ≤ l.0). lt_irrefl m (lt_of_lt_of_le k (le_trans (pow_mono g) l.2)))),
      l.2,
      l.3,
    )
  where
    sum : (z j : ℕ) → z + suc j ≡ 32 → z + j ≡ 31
    sum z j e = omega arith

    at_most : (j : ℕ) → j < 24 → j ≤ 23
    at_most j e = omega arith

-- how far m is moved up
abbrev pub gap : ℕ → ℕ
gap m = count_leading_zeros 32 m - 8

pub lead_le : (m : ℕ) → 0 < m → m < 0x100_0000 → (8 ≤ count_leading_zeros 32 m) × (gap m ≤ 23)
lead_le m h k = go (count_leading_zeros 32 m) (lead m h k).0 (lead m h k).1 (lead m h k).2
  where
    go : (z j : ℕ) → z + j ≡ 31 → j ≤ 23 → (8 ≤ z) × (z - 8 ≤ 23)
    go z j e f = omega arith

moved : (m k z : ℕ) → z ≤ 23 → m * 2 ^ k * 2 ^ 24 ≡ m * 2 ^ z * 2 ^ (k + 24 - z)
moved m k z h =
    mul_assoc m (2 ^ k) (2 ^ 24)
    ∙ ap (λ (x : ℕ). m * x) (sym (pow-add 2 k 24) ∙ ap (λ (x : ℕ). 2 ^ x) (whole k z h) ∙ pow-add 2 z (k + 24 - z))
    ∙ sym (mul_assoc m (2 ^ z) (2 ^ (k + 24 - z)))
  where
    whole : (k z : ℕ) → z ≤ 23 → k + 24 ≡ z + (k + 24 - z)
    whole k z h = omega arith

-- what `norm` makes. (s is at most 277: with it 2 ^ (23 + s) is at most m * 2 ^ k * 2 ^ 24, which is below 2 ^ 301.)
pub norm_law : (m k : ℕ) → 0 < m → m < 0x100_0000 → m * 2 ^ k < 2 ^ 277 → Split (m * 2 ^ k) ((m * 2 ^ gap m) % 2 ^ 32) (k + 24 - gap m)
norm_law m k h l b =
    let L = lead m h l in
    let j = L.0 in
    let z = gap m in
    let e : j + z ≡ 23 = there (count_leading_zeros 32 m) j L.1 L.2 in
    let lo : 0x80_0000 ≤ m * 2 ^ z =
    subst (λ (x : ℕ). x ≤ m * 2 ^ z) (sym (pow-add 2 j z) ∙ ap (λ (x : ℕ). 2 ^ x) e) (mul-le-mul_right (2 ^ z) L.3) in
    let hi : m * 2 ^ z < 0x100_0000 =
    subst (λ (x : ℕ). m * 2 ^ z < x) (sym (pow-add 2 (suc j) z) ∙ ap (λ (x : ℕ). 2 ^ x) (up j z e)) (mul-lt-mul_of_pos_right L.4 (pow_pos z)) in
    let w : (m * 2 ^ z) % 2 ^ 32 ≡ m * 2 ^ z = shl_exact (suc j) z 32 L.4 (fit j z e) in
    let v = moved m k z (lead_le m h l).1 in
    subst (λ (x : ℕ). Split (m * 2 ^ k) x (k + 24 - z)) (sym w)
    (record { least = lo; under = hi; far = bound (k + 24 - z) (m * 2 ^ z) (m * 2 ^ k) v lo b; same = v })
  where
    there : (z j : ℕ) → z + j ≡ 31 → j ≤ 23 → j + (z - 8) ≡ 23
    there z j e f = omega arith

    up : (j z : ℕ) → j + z ≡ 23 → suc j + z ≡ 24
    up j z e = omega arith

    fit : (j z : ℕ) → j + z ≡ 23 → suc j + z ≤ 32
    fit j z e = omega arith

    bound : (s a u : ℕ) → u * 2 ^ 24 ≡ a * 2 ^ s → 0x80_0000 ≤ a → u < 2 ^ 277 → s ≤ 277
    bound s a u e lo b =
        under s (exp_lt {i = 23 + s} {j = 301}
        (lt_of_le_of_lt (le_trans (le_of_eq (pow-add 2 23 s)) (le_trans (mul-le-mul_right (2 ^ s) lo) (le_of_eq (sym e)))) (shl_lt 277 24 b)))
      where
        under : (s : ℕ) → 23 + s < 301 → s ≤ 277
        under s h = omega arith

-- the same of a field that a pattern can have
pub norm_field : (m k : ℕ) → 0 < m → m < 0x100_0000 → k ≤ 253 → Split (m * 2 ^ k) ((m * 2 ^ gap m) % 2 ^ 32) (k + 24 - gap m)
norm_field m k h l b = norm_law m k h l (lt_of_lt_of_le (shl_lt 24 k l) (pow_mono (room k b)))
  where
    room : (k : ℕ) → k ≤ 253 → 24 + k ≤ 277
    room k h = omega arith

-- ---- a pattern's value
pub split-low : (b m s : ℕ) → b < 0x80_0000 → Split (b * 2 ^ 0) m s → Split (value_of binary32 b) m s
split-low b m s h = subst (λ (u : ℕ). Split u m s) (mul-one b ∙ sym (value_low binary32 b h))

pub split-high : (b m s : ℕ) → 0x80_0000 ≤ b → Split ((b % 0x80_0000 + 0x80_0000) * 2 ^ (b / 0x80_0000 - 1)) m s → Split (value_of binary32 b) m s
split-high b m s h = subst (λ (u : ℕ). Split u m s) (sym (value-high binary32 b h))

-- ---- every finite value above zero can be split, since it is m * 2 ^ j units with m of at most 24 digits
pub record Halved (u : ℕ) : Type 0 where
  pub m : ℕ
  pub s : ℕ
  pub split : Split u m s

pub halved : {x : Float} → Fin binary32 x → 0 < mag binary32 x → Halved (mag binary32 x)
halved {x = nan} p h = absurd p.finite
halved {x = inf s} p h = absurd p.finite
halved {x = fin s m e} p h =
    let g = shape binary32 s m e p.fit in
    let i = mag-shape binary32 s m e p.fit in
    record {
      m = (m * 2 ^ gap m) % 2 ^ 32;
      s = g.j + 24 - gap m;
      split =
          subst (λ (u : ℕ). Split u ((m * 2 ^ gap m) % 2 ^ 32) (g.j + 24 - gap m)) (sym i)
          (norm_law m g.j (first_pos m (2 ^ g.j) (subst (λ (u : ℕ). 0 < u) i h)) g.small g.under);
    }
