-- f64 to f32. A double's digits are rounded once, at a place that its exponent tells, and the pattern is the count of units with the exponent's
-- field above it, so a carry is right by itself. For callers: `to_single` gives a value of binary32 (`single-fits`), keeps one (`single_same`),
-- keeps the order (`single_mono`), and no value of binary32 is nearer (`single-nearest`); `single-rounds` opens every law of `floatlaws` to it.
-- Assumes nothing.
use Rattle.std.proofs.Common.{◌≡◌, ℕ, ◌+◌, ◌-◌, ◌*◌, ◌/◌, ◌%◌, ◌^◌, ◌<◌, ◌≤◌, Bool, true, false, cond, not, T, leb, ◌⊎◌, ℤ, sym, refl, ap, ◌∙◌, subst, inl, inr, le_trans, le_of_eq, le_refl, lt_of_lt_of_le, add-zero, mul-le-mul_right, mul_assoc, eq-zero-or-pos, eq-or-lt_of_le, le-div_iff_mul-le, zero-mul, arith, lit<, lit≤, pow_pos, pow_mono, pow-add, shl_lt, shr_lt}
use lib.Ieee.{Float, nan, inf, fin, binary32, binary64, up, down, odd, units, round, fits, is_nan, of_fields, of_bits, nan_bits, to_bits}
use lib.Ieee.Fits.{down_pos, nan-fits, inf-fits, round-fits}
use lib.Ieee.Bits.{is_false, of_bits-to_bits, to_bits-lt}
use lib.Ieee.Exact.{HasValue, odd_sign, round_exact}
use lib.Ieee.Nearest.{closest}
use lib.Ieee.Scale.{round_same}
use Rattle.floatlaws.specs.Whole.{size_at, closest_is, closest-zero, closest_hi, closest_lo}
use Rattle.floatlaws.specs.Value.{big, mag, hi, lo, Num, shape, mag-shape, mag_is}
use Rattle.floatlaws.specs.Order.{Le, widen-num, widen-sides}
use Rattle.floatlaws.specs.Near.{Rounds, round-num}
use Rattle.floatlaws.proofs.Near.{round-rounds, inf-rounds}
use Rattle.floatlaws.specs.Finite.{Fin}
use Rattle.floatlaws.proofs.Mono.{same_den}
use Rattle.floatlaws.specs.Nearest.{Apart, nearest}
use Rattle.floatlaws.specs.Bits.{read-high, by_fields, real-pattern, sign_bit, own_value, same_value, inf_bits, units_bits, units-inf, round_at}
use Rattle.float.specs.Single.{to_single, Narrows}

-- ---- `to_single` of a value is `round` of the fraction
pub single-val : (x : Float) (s : Bool) (a c : ℕ) → 0 < c → HasValue x s a c → to_single x ≡ round binary32 s a c
unfolding to_single
single-val nan s a c C v = absurd v
single-val (inf t) s a c C v = absurd v
single-val (fin t m e) s a c C v =
    ap (λ (y : Bool). round binary32 y (m * up e) (down e)) v.0 ∙ round_same binary32 s (m * up e) (down e) a c (down_pos e) C v.1

-- ---- a double's digits q, rounded to a single: j digits go, and the pattern's exponent counts b
pub rounds : (s : Bool) (q x j b : ℕ) → q < 2 ^ 53 → 29 ≤ j → (0 < b → (j ≡ 29) × (2 ^ 52 ≤ q)) → x + 149 + j ≡ b + 1074
    → round binary32 s (q * 2 ^ x) (2 ^ 1074) ≡ units binary32 s (closest q (2 ^ j)) b
rounds s q x j b hi J lo e =
    round_at binary32 s q x 1074 j b e
    (size_at 24 b (q * 2 ^ b / 2 ^ j) (lit< tt)
    (shr_lt (24 + b) j (lt_of_lt_of_le (shl_lt 53 b hi) (pow_mono (more b j J))))
    (λ l. (le-div_iff_mul-le (pow_pos j)).1
    (subst (λ (y : ℕ). 2 ^ (23 + b) * 2 ^ y ≤ q * 2 ^ b) (sym (lo l).0)
    (le_trans (le_of_eq (sym (pow-add 2 (23 + b) 29) ∙ ap (λ (y : ℕ). 2 ^ y) (same b) ∙ pow-add 2 52 b)) (mul-le-mul_right (2 ^ b) (lo l).1)))))
  where
    more : (b j : ℕ) → 29 ≤ j → 53 + b ≤ 24 + b + j
    more b j h = omega arith

    same : (b : ℕ) → 23 + b + 29 ≡ 52 + b
    same b = omega arith

at_most : (q j : ℕ) → q < 2 ^ 53 → 29 ≤ j → closest q (2 ^ j) ≤ 2 ^ 24
at_most q j hi J = closest_hi q 24 j (lt_of_lt_of_le hi (pow_mono (more j J)))
  where
    more : (j : ℕ) → 29 ≤ j → 53 ≤ 24 + j
    more j h = omega arith

-- ---- what a double's fields stand for, rounded
single-odd : (s : Bool) (q x : ℕ) → to_single (odd 53 s q x 1074) ≡ round binary32 s (q * 2 ^ x) (2 ^ 1074)
single-odd s q x = single-val (odd 53 s q x 1074) s (q * 2 ^ x) (2 ^ 1074) (pow_pos 1074) (odd_sign 53 s q x 1074)

normal_64 : (s : Bool) (F t : ℕ) → 0 < F → F < 2047
    → to_single (of_fields binary64 s F t) ≡ round binary32 s ((0x10_0000_0000_0000 + t) * 2 ^ (F - 1)) (2 ^ 1074)
normal_64 s F t p h = ap to_single (read-high binary64 s F t p h) ∙ single-odd s (0x10_0000_0000_0000 + t) (F - 1)

low_64 : (s : Bool) (t : ℕ) → of_fields binary64 s 0 t ≡ odd 53 s t 0 1074
unfolding of_fields
low_64 s t = refl

inf_64 : (s : Bool) → to_single (of_fields binary64 s 2047 0) ≡ inf s
unfolding to_single of_fields
inf_64 s = refl

-- ---- the four branches of `magnitude`: F is the exponent's field, t the digits
module _ (s : Bool) (F t : ℕ) (small : t < 0x10_0000_0000_0000) where
  q_hi : 0x10_0000_0000_0000 + t < 0x20_0000_0000_0000
  q_hi = omega arith

  q_lo : 0x10_0000_0000_0000 ≤ 0x10_0000_0000_0000 + t
  q_lo = omega arith

  single-high : 897 ≤ F → F < 2047 → to_single (of_fields binary64 s F t) ≡ units binary32 s (closest (0x10_0000_0000_0000 + t) (2 ^ 29)) (F - 897)
  single-high a b =
      normal_64 s F t (omega arith) b ∙ rounds s (0x10_0000_0000_0000 + t) (F - 1) 29 (F - 897) q_hi (le_refl 29) (λ _. (refl, q_lo)) (omega arith)

  single-inf : F ≤ 2047 → (F ≡ 2047 → t ≡ 0) → 1151 ≤ F → to_single (of_fields binary64 s F t) ≡ inf s
  single-inf a z b = elim (eq-or-lt_of_le a) [
    | inl e ↦ ap (λ (y : ℕ). to_single (of_fields binary64 s y t)) e ∙ ap (λ (y : ℕ). to_single (of_fields binary64 s 2047 y)) (z e) ∙ inf_64 s
    | inr l ↦ single-high (omega arith) l
        ∙ units-inf binary32 s (closest (0x10_0000_0000_0000 + t) (2 ^ 29)) (F - 897) (closest_lo (0x10_0000_0000_0000 + t) 23 29 q_lo) (omega arith)
  ]

  bits_high : 897 ≤ F → F < 1151
      → to_bits binary32 (to_single (of_fields binary64 s F t)) ≡ cond s 0x8000_0000 0 + ((F - 897) * 0x80_0000 + closest (0x10_0000_0000_0000 + t) (2 ^ 29))
  bits_high a b =
      ap (to_bits binary32) (single-high a (omega arith))
      ∙ units_bits binary32 s (closest (0x10_0000_0000_0000 + t) (2 ^ 29)) (F - 897) (at_most (0x10_0000_0000_0000 + t) 29 q_hi (le_refl 29))
      (λ _. closest_lo (0x10_0000_0000_0000 + t) 23 29 q_lo) (omega arith)

bits_low : (s : Bool) (v : Float) (p x j : ℕ) → to_single v ≡ round binary32 s (p * 2 ^ x) (2 ^ 1074) → p < 2 ^ 53 → 29 ≤ j → x + j ≡ 925
    → to_bits binary32 (to_single v) ≡ cond s 0x8000_0000 0 + closest p (2 ^ j)
bits_low s v p x j e h J k =
    ap (to_bits binary32) (e ∙ rounds s p x j 0 h J (λ l. absurd (none l)) (omega arith))
    ∙ units_bits binary32 s (closest p (2 ^ j)) 0 (at_most p j h J) (λ l. absurd (none l)) (lit≤ tt)
    ∙ ap (λ (y : ℕ). cond s 0x8000_0000 0 + y) (plain (closest p (2 ^ j)))
  where
    none : 0 < 0 → ⊥
    none l = omega arith

    plain : (c : ℕ) → 0 * 0x80_0000 + c ≡ c
    plain c = omega arith

-- an even count of units more is that much more when rounded
closest-even : (q j : ℕ) → closest (q + j * 0x4000_0000) (2 ^ 29) ≡ 2 * j + closest q (2 ^ 29)
closest-even q j =
    sym (closest_is (q + j * 0x4000_0000) 29 (lit≤ tt)) ∙ carried q j ∙ ap (λ (c : ℕ). 2 * j + c) (closest_is q 29 (lit≤ tt))
  where
    units : (q j : ℕ) → (q + j * 0x4000_0000) / 0x2000_0000 ≡ q / 0x2000_0000 + 2 * j
    units q j = omega arith

    parity : (x j : ℕ) → (x + 2 * j) % 2 ≡ x % 2
    parity x j = omega arith

    moved : (q j p : ℕ) → (q + j * 0x4000_0000 + 0xfff_ffff + p) / 0x2000_0000 ≡ 2 * j + (q + 0xfff_ffff + p) / 0x2000_0000
    moved q j p = omega arith

    carried : (q j : ℕ)
        → (q + j * 0x4000_0000 + 0xfff_ffff + (q + j * 0x4000_0000) / 0x2000_0000 % 2) / 0x2000_0000
        ≡ 2 * j + (q + 0xfff_ffff + q / 0x2000_0000 % 2) / 0x2000_0000
    carried q j =
        ap (λ (p : ℕ). (q + j * 0x4000_0000 + 0xfff_ffff + p) / 0x2000_0000)
        (ap (λ (x : ℕ). x % 2) (units q j) ∙ parity (q / 0x2000_0000) j)
        ∙ moved q j (q / 0x2000_0000 % 2)

module _ (m : ℕ) where
  pub narrows-inf : m ≤ 0x7ff0_0000_0000_0000 → 1151 ≤ m / 0x10_0000_0000_0000 → Narrows m 0x7f80_0000
  narrows-inf M h = record {
    small = lit≤ tt;
    bits =
        λ s. ap (to_bits binary32) (single-inf s (m / 0x10_0000_0000_0000) (m % 0x10_0000_0000_0000) (omega arith) (omega arith) (λ e. omega arith) h)
        ∙ inf_bits binary32 s;
  }

  -- the whole pattern rounded is the field's units, an even count, and the digits rounded
  high_part : 897 ≤ m / 0x10_0000_0000_0000
      → closest m (2 ^ 29) ≡ (m / 0x10_0000_0000_0000 - 1) * 0x80_0000 + closest (0x10_0000_0000_0000 + m % 0x10_0000_0000_0000) (2 ^ 29)
  high_part a =
      let q = 0x10_0000_0000_0000 + m % 0x10_0000_0000_0000 in
      let j = (m / 0x10_0000_0000_0000 - 1) * 0x40_0000 in
      let e : m ≡ q + j * 0x4000_0000 = omega arith in
      let d : closest m (2 ^ 29) ≡ 2 * j + closest q (2 ^ 29) = ap (λ (n : ℕ). closest n (2 ^ 29)) e ∙ closest-even q j in
      omega arith

  pub high-field : (r : ℕ) → 897 ≤ m / 0x10_0000_0000_0000 → r ≡ closest m (2 ^ 29) → 0x1_c000_0000 ≤ r
  high-field r a e = omega (arith, high_part a)

  pub narrows-high : (r : ℕ) → 897 ≤ m / 0x10_0000_0000_0000 → m / 0x10_0000_0000_0000 < 1151 → r ≡ closest m (2 ^ 29)
      → Narrows m (r - 0x1_c000_0000)
  narrows-high r a b e =
      let F = m / 0x10_0000_0000_0000 in
      let q = 0x10_0000_0000_0000 + m % 0x10_0000_0000_0000 in
      let c : closest q (2 ^ 29) ≤ 0x100_0000 = at_most q 29 (omega arith) (le_refl 29) in
      let d : r - 0x1_c000_0000 ≡ (F - 897) * 0x80_0000 + closest q (2 ^ 29) = omega (arith, high_part a) in
      record {
        small = omega arith;
        bits = λ s. rw d (bits_high s F (m % 0x10_0000_0000_0000) (omega arith) a b);
      }

  pub narrows-low : (r : ℕ) → 864 ≤ m / 0x10_0000_0000_0000 → m / 0x10_0000_0000_0000 < 897
      → r ≡ closest (0x10_0000_0000_0000 + m % 0x10_0000_0000_0000) (2 ^ (926 - m / 0x10_0000_0000_0000))
      → Narrows m r
  narrows-low r a b e =
      let F = m / 0x10_0000_0000_0000 in
      let t = m % 0x10_0000_0000_0000 in
      let c : r ≤ 0x100_0000 = le_trans (le_of_eq e) (at_most (0x10_0000_0000_0000 + t) (926 - F) (omega arith) (omega arith)) in
      record {
        small = omega arith;
        bits =
            λ s. rw e (bits_low s (of_fields binary64 s F t) (0x10_0000_0000_0000 + t) (F - 1) (926 - F) (normal_64 s F t (omega arith) (omega arith))
            (omega arith) (omega arith) (omega arith));
      }

  pub narrows-zero : m / 0x10_0000_0000_0000 < 864 → Narrows m 0
  narrows-zero a = record { small = lit≤ tt; bits = λ s. go s (eq-zero-or-pos (m / 0x10_0000_0000_0000)) }
    where
      go : (s : Bool) → (m / 0x10_0000_0000_0000 ≡ 0) ⊎ (0 < m / 0x10_0000_0000_0000)
          → to_bits binary32 (to_single (of_fields binary64 s (m / 0x10_0000_0000_0000) (m % 0x10_0000_0000_0000))) ≡ cond s 0x8000_0000 0 + 0
      go s (inl z) =
          let t = m % 0x10_0000_0000_0000 in
          rw z (bits_low s (of_fields binary64 s 0 t) t 0 925 (ap to_single (low_64 s t) ∙ single-odd s t 0) (omega arith) (lit≤ tt) refl
          ∙ ap (λ (y : ℕ). cond s 0x8000_0000 0 + y) (closest-zero t 53 925 (omega arith) (lit< tt)))
      go s (inr p) =
          let F = m / 0x10_0000_0000_0000 in
          let t = m % 0x10_0000_0000_0000 in
          bits_low s (of_fields binary64 s F t) (0x10_0000_0000_0000 + t) (F - 1) (926 - F) (normal_64 s F t p (omega arith)) (omega arith)
          (omega arith) (omega arith)
          ∙ ap (λ (y : ℕ). cond s 0x8000_0000 0 + y) (closest-zero (0x10_0000_0000_0000 + t) 53 (926 - F) (omega arith) (omega arith))

-- ---- `to_single` gives a value of binary32, and keeps one
pub single-fits : (x : Float) → T (fits binary32 (to_single x))
unfolding to_single
single-fits nan = nan-fits binary32
single-fits (inf s) = inf-fits binary32 s
single-fits (fin s m e) = round-fits binary32 s (m * up e) (down e)

-- ---- a double's pattern b, apart from a NaN's, and the single's pattern: the sign and `magnitude`'s answer
module _ (x : Float) (h : T (fits binary64 x)) (r : ℕ) (n : Narrows (to_bits binary64 x % 0x8000_0000_0000_0000) r) where
  single_bits : to_bits binary32 (to_single x) ≡ to_bits binary64 x / 0x8000_0000_0000_0000 * 0x8000_0000 + r
  single_bits =
      let b = to_bits binary64 x in
      ap (λ (y : Float). to_bits binary32 (to_single y)) (by_fields binary64 x h)
      ∙ n.bits (leb 0x8000_0000_0000_0000 b)
      ∙ ap (λ (y : ℕ). y + r) (sym (sign_bit binary64 b 0x8000_0000 (to_bits-lt binary64 x h)))

  pub single_is : of_bits binary32 (to_bits binary64 x / 0x8000_0000_0000_0000 * 0x8000_0000 + r) ≡ to_single x
  single_is = ap (of_bits binary32) (sym single_bits) ∙ of_bits-to_bits binary32 (to_single x) (single-fits x)

  pub single_no_nan : T (not (nan_bits binary32 (to_bits binary64 x / 0x8000_0000_0000_0000 * 0x8000_0000 + r)))
  single_no_nan =
      let l : r ≤ 0x7f80_0000 = n.small in
      real-pattern binary32 (to_bits binary64 x / 0x8000_0000_0000_0000 * 0x8000_0000 + r) (omega arith)

pub nan_is : (x : Float) → x ≡ nan → of_bits binary32 0x7fc0_0000 ≡ to_single x
unfolding of_bits to_single
nan_is x e = rw e

-- ---- a value of binary32 is kept
pub single_same : (x : Float) → T (fits binary32 x) → to_single x ≡ x
unfolding to_single
single_same nan F = refl
single_same (inf s) F = refl
single_same (fin s m e) F =
    let x = fin s m e in
    let g = shape binary32 s m e F in
    let i : m * 2 ^ g.j ≡ mag binary32 x = sym (mag-shape binary32 s m e F) in
    let v = own_value {f = binary32} {x = x} (record { fit = F; finite = tt }) in
    same_value binary32 (to_single x) x s (mag binary32 x) (single-fits x) F
    (subst (λ (y : Float). HasValue y s (mag binary32 x) (2 ^ 149)) (sym (single-val x s (mag binary32 x) (2 ^ 149) (pow_pos 149) v))
    (subst (λ (a : ℕ). HasValue (round binary32 s a (2 ^ 149)) s a (2 ^ 149)) i
    (round_exact binary32 s (m * 2 ^ g.j) (2 ^ 149) m g.j (pow_pos 149) g.small g.under refl)))
    v

in_units : (s : Bool) (m : ℕ) (e : ℤ) → T (fits binary64 (fin s m e)) → mag binary64 (fin s m e) * down e ≡ m * up e * 2 ^ 149 * 2 ^ 925 + 0 * down e
in_units s m e F =
    mag_is binary64 s m e F
    ∙ ap (λ (z : ℕ). m * up e * z) (pow-add 2 149 925)
    ∙ sym (mul_assoc (m * up e) (2 ^ 149) (2 ^ 925))
    ∙ sym (ap (λ (z : ℕ). m * up e * 2 ^ 149 * 2 ^ 925 + z) (zero-mul (down e)) ∙ add-zero (m * up e * 2 ^ 149 * 2 ^ 925))

-- ---- what it means: x rounded, of which 2 ^ 925 units are one of binary32
pub single-rounds : {x : Float} → Num binary64 x → Rounds binary32 (to_single x) (hi binary64 x) (lo binary64 x) (2 ^ 925)
unfolding to_single hi lo
single-rounds {x = nan} p = absurd (unfold is_nan in p.real)
single-rounds {x = inf true} p = unfold mag in inf-rounds binary32 true 0 (big binary64) (2 ^ 925) (pow_pos 925) (lit≤ tt)
single-rounds {x = inf false} p = unfold mag in inf-rounds binary32 false (big binary64) 0 (2 ^ 925) (pow_pos 925) (lit≤ tt)
single-rounds {x = fin true m e} p =
    round-rounds binary32 true (m * up e) (down e) 0 (mag binary64 (fin true m e)) (2 ^ 925) (down_pos e) (pow_pos 925) (in_units true m e p.fit)
single-rounds {x = fin false m e} p =
    round-rounds binary32 false (m * up e) (down e) (mag binary64 (fin false m e)) 0 (2 ^ 925) (down_pos e) (pow_pos 925)
    (in_units false m e p.fit)

pub single-num : {x : Float} → Num binary64 x → Num binary32 (to_single x)
single-num p = (single-rounds p).num

-- a NaN exactly where x is one
pub single-nan : (x : Float) → is_nan (to_single x) ≡ is_nan x
unfolding to_single
single-nan nan = refl
single-nan (inf s) = refl
single-nan (fin s m e) =
    is_false (is_nan (round binary32 s (m * up e) (down e))) (round-num binary32 s (m * up e) (down e)).real ∙ sym (unfold is_nan in refl)

-- the order is kept, so no value of binary32 lies strictly between x and `to_single x`
pub single_mono : {x y : Float} → Num binary64 x → Num binary64 y → Le binary64 x y → Le binary32 (to_single x) (to_single y)
single_mono p q h = same_den (single-rounds p) (single-rounds q) h.le

pub single-above : {x y : Float} → Num binary64 x → Num binary32 y → Le binary64 y x → Le binary32 y (to_single x)
single-above {x} {y} p q h = subst (λ (z : Float). Le binary32 z (to_single x)) (single_same y q.fit) (single_mono (widen-num q) p h)

pub single-under : {x y : Float} → Num binary64 x → Num binary32 y → Le binary64 x y → Le binary32 (to_single x) y
single-under {x} {y} p q h = subst (λ (z : Float). Le binary32 (to_single x) z) (single_same y q.fit) (single_mono p (widen-num q) h)

-- and no value of binary32 is nearer to x. (Of two that are as near, `round` takes the one whose last digit is even; from half a step above the
-- largest on it is an infinity.)
pub single-nearest : {x y : Float} → Num binary64 x → Fin binary32 (to_single x) → Fin binary32 y → Apart binary64 (to_single x) x ≤ Apart binary64 y x
single-nearest {x} {y} p r q =
    let a = widen-sides (to_single x) r.fit r.finite in
    let b = widen-sides y q.fit q.finite in
    rw (a.0, a.1, b.0, b.1) (nearest (single-rounds p) r q)
