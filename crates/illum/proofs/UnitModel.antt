-- What the unit model makes of a colour, of every side and term count. At every finite position each term but the gain's first is a zero, so the gain is 1 and the flare +0. A component less +0, divided by 1, times 1
-- and with zeros added is itself, save that the last zero, which is +0, makes +0 of -0. Assumes nothing.
use Rattle.std.proofs.Common.{◌≡◌, ℕ, zero, suc, ◌*◌, ◌^◌, ◌<◌, ◌≤◌, Bool, true, false, cond, ◌&&◌, T, eqb, List, [], ◌∷◌, length, get_or, ℤ, pos, sym, refl, ap, ◌∙◌, ap₂, inl, le_trans, le_of_eq, not-suc-le-zero, add-zero, mul-le-mul_right, zero-lt-suc, mul-pos, one-mul, zero-add, zero-mul, mul-one, arith, pow_pos, le-ltb, lt-ltb}
use native.Mathlib.Nat.{sub-zero}
use lib.ListN.{get_or-replicate}
use lib.Ieee.{Float, nan, inf, fin, binary32, binary64, low, up, down, unlike, round, sum, add, sub, mul, div, neg, lt, of_int, fits}
use lib.Ieee.Exact.{round_exact}
use lib.Ieee.Fits.{up_pos, down_pos, round-fits, fits_widens}
use lib.Ieee.Scale.{finite, round_same}
use Rattle.floatlaws.specs.Value.{hi, lo, mag, limit, shape}
use Rattle.floatlaws.specs.Order.{Le, widen-num, widen_le, widen-sides}
use Rattle.floatlaws.proofs.Ops.{int-rounds}
use Rattle.floatlaws.proofs.Mono.{int_mono}
use Rattle.floatlaws.specs.Finite.{Fin, num, fin-under, mag-zero}
use Rattle.floatlaws.specs.Magnitude.{Within, of_sizes, self}
use Rattle.floatlaws.proofs.Magnitude.{sub_within, mul-within, div-within}
use Rattle.floatlaws.specs.Bits.{same_value, same_float}
use Rattle.floatlaws.specs.NegativeZero.{add-negative-zero}
use Rattle.float.specs.Select.{abs}
use Rattle.float.specs.Single.{to_single}
use Rattle.float.proofs.Single.{single_same}
use Rattle.loops.proofs.Laws.{for_up-turn, for_up_to}
use Rattle.color.specs.declared.Linear.{Linear}
use Rattle.illum.specs.Surface.{zero64, one64, two64, least_gain, terms_used, normalised, bilinear, biquadratic, basis_at, add_term, surface_at, is_held, hold_gain, deshade}
use Rattle.illum.specs.Correct.{affine_row, unshaded, mixed, corrected, unit_gain, no_flare, unit_model}
use Rattle.illum.specs.Returned.{Returned, ReturnedColour}
use Rattle.illum.proofs.Terms.{used-least, used-most}

-- a zero of this sign
abbrev nil : Bool → Float
nil s = fin s 0 (pos 0)

abbrev Zero : Float → Type 0
Zero x = (t : Bool) × (x ≡ nil t)

-- ---- an f64 that is rounded, less +0, by 1 and times 1

round_of_value : (s : Bool) (m : ℕ) (e : ℤ) → T (fits binary64 (fin s m e)) → round binary64 s (m * up e) (down e) ≡ fin s m e
round_of_value s m e t =
    let g = shape binary64 s m e t in
    round_same binary64 s (m * up e) (down e) (m * 2 ^ g.j) (2 ^ low binary64) (down_pos e) (pow_pos (low binary64)) (sym g.is)
    ∙ same_value binary64 (round binary64 s (m * 2 ^ g.j) (2 ^ low binary64)) (fin s m e) s (m * 2 ^ g.j) (round-fits binary64 s (m * 2 ^ g.j) (2 ^ low binary64)) t
    (round_exact binary64 s (m * 2 ^ g.j) (2 ^ low binary64) m g.j (pow_pos (low binary64)) g.small g.under refl) (refl, sym g.is)

unlike-plus : (s : Bool) → unlike false s ≡ s
unlike-plus true = refl
unlike-plus false = refl

unlike_of_plus : (s : Bool) → unlike s false ≡ s
unlike_of_plus true = refl
unlike_of_plus false = refl

less_zero : (x : Float) → T (fits binary64 x) → sub binary64 x (nil false) ≡ x
unfolding sub neg
less_zero x t = add-negative-zero binary64 x t

by_one : (s : Bool) (m : ℕ) (e : ℤ) → T (fits binary64 (fin s m e)) → div binary64 (fin s m e) one64 ≡ fin s m e
unfolding div
by_one s m e t =
    ap (λ (u : Bool). round binary64 u (m * up e * 1) (1 * down e)) (unlike_of_plus s) ∙ rw (mul-one (m * up e), one-mul (down e)) (round_of_value s m e t)

one_times : (s : Bool) (m : ℕ) (e : ℤ) → T (fits binary64 (fin s m e)) → mul binary64 one64 (fin s m e) ≡ fin s m e
unfolding mul
one_times s m e t =
    ap (λ (u : Bool). round binary64 u (1 * (m * up e)) (1 * down e)) (unlike-plus s) ∙ rw (one-mul (m * up e), one-mul (down e)) (round_of_value s m e t)

zero_times : (x : Float) → T (finite x) → Zero (mul binary64 zero64 x)
unfolding mul round
zero_times nan t = absurd t
zero_times (inf s) t = absurd t
zero_times (fin s m e) t = (
  s,
  ap (λ (u : Bool). round binary64 u (0 * (m * up e)) (1 * down e)) (unlike-plus s)
      ∙ round_same binary64 s (0 * (m * up e)) (1 * down e) 0 1 (mul-pos (pow_pos 0) (down_pos e)) (pow_pos 0) (simp zero-mul),
)

-- ---- sums with a zero

sum_of_zero : (s t : Bool) (a b c : ℕ) → b ≡ 0 → 0 < a → sum binary64 s a t b c ≡ round binary64 s a c
unfolding sum
sum_of_zero true true a b c z h = rw (z, add-zero a)
sum_of_zero false false a b c z h = rw (z, add-zero a)
sum_of_zero false true a b c z h = rw (z, le-ltb a 0 (omega arith), sub-zero a)
sum_of_zero true false a b c z h = rw (z, le-ltb a 0 (omega arith), lt-ltb 0 a h, sub-zero a)

zero-and_sum : (s t : Bool) (a b c : ℕ) → b ≡ 0 → 0 < a → sum binary64 t b s a c ≡ round binary64 s a c
unfolding sum
zero-and_sum true true a b c z h = rw (z, zero-add a)
zero-and_sum false false a b c z h = rw (z, zero-add a)
zero-and_sum false true a b c z h = rw (z, lt-ltb 0 a h, sub-zero a)
zero-and_sum true false a b c z h = rw (z, lt-ltb 0 a h, sub-zero a)

-- a value that is not 0, and a zero
module _ (s : Bool) (m : ℕ) (e : ℤ) (F : T (fits binary64 (fin s (suc m) e))) where
  above : 0 < suc m * up e * 1
  above = mul-pos (mul-pos (zero-lt-suc m) (up_pos e)) (pow_pos 0)

  and_zero : {z : Float} → Zero z → add binary64 (fin s (suc m) e) z ≡ fin s (suc m) e
  unfolding add
  and_zero z =
      ap (add binary64 (fin s (suc m) e)) z.1
      ∙ sum_of_zero s z.0 (suc m * up e * 1) (0 * 1 * down e) (down e * 1) (zero-mul (down e)) above
      ∙ rw (mul-one (suc m * up e), mul-one (down e)) (round_of_value s (suc m) e F)

  zero-and : {z : Float} → Zero z → add binary64 z (fin s (suc m) e) ≡ fin s (suc m) e
  unfolding add
  zero-and z =
      ap (λ (w : Float). add binary64 w (fin s (suc m) e)) z.1
      ∙ zero-and_sum s z.0 (suc m * up e * 1) (0 * 1 * down e) (1 * down e) (zero-mul (down e)) above
      ∙ rw (mul-one (suc m * up e), one-mul (down e)) (round_of_value s (suc m) e F)

two_zeros : (s t : Bool) → add binary64 (nil s) (nil t) ≡ nil (s && t)
unfolding add
two_zeros true true = refl
two_zeros true false = refl
two_zeros false true = refl
two_zeros false false = refl

zeros : {x y : Float} → Zero x → Zero y → Zero (add binary64 x y)
zeros x y = (x.0 && y.0, ap₂ (add binary64) x.1 y.1 ∙ two_zeros x.0 y.0)

-- +0 and a zero
plus-and-zero : {z : Float} → Zero z → add binary64 (nil false) z ≡ nil false
plus-and-zero z = ap (add binary64 (nil false)) z.1 ∙ two_zeros false z.0

-- ---- the two surfaces, where the basis is finite and begins with 1

fits_one : T (fits binary64 one64)
unfolding fits
fits_one = tt

module _ (terms : ℕ) (b : List Float) (all : (k : ℕ) → k < terms_used terms → T (finite (get_or b k nan))) where
  flare_is : surface_at terms no_flare b ≡ nil false
  unfolding add_term
  flare_is = for_up_to (λ i s. s ≡ zero64) (add_term no_flare b) (terms_used terms) 0 zero64 (omega arith) refl (λ j q r s p. turn j r s p)
    where
      turn : (j : ℕ) → j < terms_used terms → (s : Float) → s ≡ zero64 → add_term no_flare b j s ≡ zero64
      turn j r s p =
          let z : get_or no_flare j nan ≡ zero64 = get_or-replicate 9 j zero64 nan (omega (arith, used-most terms)) in
          rw (p, z) (plus-and-zero (zero_times (get_or b j nan) (all j r)))

  gain_is : get_or b 0 nan ≡ one64 → surface_at terms unit_gain b ≡ one64
  unfolding add_term
  gain_is e =
      for_up-turn (add_term unit_gain b) (terms_used terms) 0 zero64 (omega (arith, used-least terms))
      ∙ for_up_to (λ i s. s ≡ one64) (add_term unit_gain b) (terms_used terms) 1 (add_term unit_gain b 0 zero64) (omega (arith, used-least terms)) first (λ j q r s p. turn j q r s p)
    where
      first : add_term unit_gain b 0 zero64 ≡ one64
      first = rw (e, one_times false 1 (pos 0) fits_one) (zero-and false 0 (pos 0) fits_one (false, refl))

      turn : (j : ℕ) → 1 ≤ j → j < terms_used terms → (s : Float) → s ≡ one64 → add_term unit_gain b j s ≡ one64
      turn zero q r s p = absurd (not-suc-le-zero q)
      turn (suc j) q r s p =
          let z : get_or unit_gain (suc j) nan ≡ zero64 = get_or-replicate 8 j zero64 nan (omega (arith, used-most terms)) in
          rw (p, z) (and_zero false 0 (pos 0) fits_one (zero_times (get_or b (suc j) nan) (all (suc j) r)))

-- ---- one channel's inverse

held_one : hold_gain one64 ≡ one64
unfolding hold_gain is_held least_gain lt abs round
held_one = refl

undone : (x : Float) → Fin binary64 x → div binary64 (sub binary64 x (nil false)) one64 ≡ x
undone nan p = absurd p.finite
undone (inf s) p = absurd p.finite
undone (fin s m e) p = ap (λ (z : Float). div binary64 z one64) (less_zero (fin s m e) p.fit) ∙ by_one s m e p.fit

inverse : (terms : ℕ) (at : List Float) (x : Float) → surface_at terms unit_gain at ≡ one64 → surface_at terms no_flare at ≡ nil false → Fin binary64 x → (deshade terms unit_gain no_flare at x).value ≡ x
unfolding deshade
inverse terms at x g f p =
    ap₂ (λ (flare gain : Float). div binary64 (sub binary64 x flare) (hold_gain gain)) f g ∙ ap (div binary64 (sub binary64 x (nil false))) held_one ∙ undone x p

-- ---- a position on the scale of the surfaces

-- 2 ^ 128: above every f32
abbrev top : Float
top = fin false 1 (pos 128)

fin-top : Fin binary64 top
fin-top = record { fit = unfold fits in tt; finite = tt }

top_is : limit binary32 * 2 ^ 925 ≡ hi binary64 top
unfolding limit hi mag
top_is = refl

widened : {x : Float} → Fin binary32 x → Fin binary64 x
widened {x} p = record { fit = fits_widens x p.fit; finite = p.finite }

under_top : {x : Float} → Fin binary32 x → Within binary64 top x
under_top {x} p =
    let u = fin-under p in
    let w = widen-sides x p.fit p.finite in
    of_sizes fin-top tt (widen-num (num p)) (scaled (hi binary32 x) (hi binary64 x) (omega arith) w.0) (scaled (lo binary32 x) (lo binary64 x) (omega arith) w.1)
  where
    scaled : (a b : ℕ) → a ≤ limit binary32 → b ≡ a * 2 ^ 925 → b ≤ hi binary64 top
    scaled a b h e = le_trans (le_of_eq e) (le_trans (mul-le-mul_right (2 ^ 925) h) (le_of_eq top_is))

fin_one : Fin binary64 one64
fin_one = record { fit = fits_one; finite = tt }

fin_two : Fin binary64 two64
fin_two = record { fit = unfold fits in tt; finite = tt }

one_is : of_int binary32 (pos 1) ≡ one64
unfolding of_int round
one_is = refl

-- a coordinate, far outside of the card too
abbrev far : Float
far = add binary64 (div binary64 (mul binary64 two64 top) one64) one64

module _ (side : ℕ) (least : 1 ≤ side) where
  side-above : Le binary64 one64 (of_int binary32 (pos side))
  side-above = rw one_is at (widen_le (int-rounds binary32 1).num (int-rounds binary32 side).num (int_mono binary32 1 side least))

  scaled-position : {x : Float} → Fin binary32 x → Within binary64 far (normalised (of_int binary32 (pos side)) x)
  unfolding normalised
  scaled-position p =
      sub_within
      (div-within {a = mul binary64 two64 top} {c = one64} fin_one tt (unfold div mul in tt) (widen-num (int-rounds binary32 side).num) (inl side-above) (mul-within (self fin_two tt) (under_top p) (unfold mul in tt)))
      (self fin_one tt) (unfold add div mul in tt)

-- ---- the basis: its products of up to four coordinates are finite

-- all entries of a list are
abbrev All : List Float → Type 0
All [] = T true
All (x ∷ l) = T (finite x) × All l

each : (l : List Float) → All l → (k : ℕ) → k < length l → T (finite (get_or l k nan))
each [] p k h = absurd (not-suc-le-zero h)
each (x ∷ l) p zero h = p.0
each (x ∷ l) p (suc k) h = each l p.1 k (omega arith)

module _ (u v : Float) (p : Within binary64 far u) (q : Within binary64 far v) where
  products : Within binary64 (mul binary64 far far) (mul binary64 u v) × Within binary64 (mul binary64 far far) (mul binary64 u u) × Within binary64 (mul binary64 far far) (mul binary64 v v)
  unfolding mul div add round
  products = (mul-within p q tt, mul-within p p tt, mul-within q q tt)

  thirds : Within binary64 (mul binary64 (mul binary64 far far) far) (mul binary64 (mul binary64 u u) v) × Within binary64 (mul binary64 (mul binary64 far far) far) (mul binary64 (mul binary64 u v) v)
  unfolding mul div add round
  thirds = (mul-within products.1 q tt, mul-within products.0 q tt)

  fourth : Within binary64 (mul binary64 (mul binary64 (mul binary64 far far) far) far) (mul binary64 (mul binary64 (mul binary64 u u) v) v)
  unfolding mul div add round
  fourth = mul-within thirds.0 q tt

  four-finite : All (bilinear u v)
  four-finite = (tt, (p.is.finite, (q.is.finite, (products.0.is.finite, (tt, (tt, (tt, (tt, (tt, tt)))))))))

  nine-finite : All (biquadratic u v)
  nine-finite =
      (tt, (p.is.finite, (q.is.finite, (products.0.is.finite, (products.1.is.finite, (products.2.is.finite, (thirds.0.is.finite, (thirds.1.is.finite, (fourth.is.finite, tt)))))))))

  by_terms : (b : Bool) (k : ℕ) → k < 9 → T (finite (get_or (cond b (bilinear u v) (biquadratic u v)) k nan))
  by_terms true k h = each (bilinear u v) four-finite k h
  by_terms false k h = each (biquadratic u v) nine-finite k h

  begins : (b : Bool) → get_or (cond b (bilinear u v) (biquadratic u v)) 0 nan ≡ one64
  begins true = refl
  begins false = refl

-- ---- one channel

module _ (side terms : ℕ) (least : 1 ≤ side) {x y : Float} (p : Fin binary32 x) (q : Fin binary32 y) where
  abbrev basis : List Float
  basis = basis_at terms (of_int binary32 (pos side)) x y

  basis-finite : (k : ℕ) → k < terms_used terms → T (finite (get_or basis k nan))
  unfolding basis_at
  basis-finite k h = by_terms _ _ (scaled-position side least p) (scaled-position side least q) (eqb terms 4) k (omega (arith, used-most terms))

  basis-begins : get_or basis 0 nan ≡ one64
  unfolding basis_at
  basis-begins = begins _ _ (scaled-position side least p) (scaled-position side least q) (eqb terms 4)

  channel : (v : Float) → Fin binary32 v → (deshade terms unit_gain no_flare basis v).value ≡ v
  channel v f = inverse terms basis v (gain_is terms basis basis-finite basis-begins) (flare_is terms basis basis-finite) (widened f)

-- ---- a row of the affine part

-- w is v, or both are zeros
data Near : Float → Float → Type 0 where
  solid : (s : Bool) (m : ℕ) (e : ℤ) → T (fits binary64 (fin s (suc m) e)) → Near (fin s (suc m) e) (fin s (suc m) e)
  none : (s t : Bool) → Near (nil s) (nil t)

fin-nil : (s : Bool) → Fin binary64 (nil s)
fin-nil s = record { fit = unfold fits in tt; finite = tt }

once : (x : Float) → Fin binary64 x → Near x (mul binary64 one64 x)
once nan p = absurd p.finite
once (inf s) p = absurd p.finite
once (fin s zero e) p =
    rw (same_float p (fin-nil s) refl (mag-zero binary64 s e ∙ sym (mag-zero binary64 s (pos 0))), one_times s 0 (pos 0) (fin-nil s).fit) (none s s)
once (fin s (suc m) e) p = rw (one_times s (suc m) e p.fit) (solid s m e p.fit)

near-and : {v w z : Float} → Near v w → Zero z → Near v (add binary64 w z)
unfolding zeros
near-and (solid s m e F) z = rw (and_zero s m e F z) (solid s m e F)
near-and (none s t) z = rw (zeros (t, refl) z).1 (none s (t && z.0))

and-near : {v w z : Float} → Zero z → Near v w → Near v (add binary64 z w)
unfolding zeros
and-near z (solid s m e F) = rw (zero-and s m e F z) (solid s m e F)
and-near z (none s t) = rw (zeros z (t, refl)).1 (none s (z.0 && t))

no_minus : (s : Bool) → s && false ≡ false
no_minus true = refl
no_minus false = refl

plus-sign : (s : Bool) → (nil s ≡ nil true → ⊥) → nil false ≡ nil s
plus-sign true n = absurd (n refl)
plus-sign false n = refl

-- with +0 added, and as an f32
back : {v w : Float} → Near v w → T (fits binary32 v) → Returned v (to_single (add binary64 w (nil false)))
back (solid s m e F) f =
    record { same = λ _. ap to_single (and_zero s m e F (false, refl)) ∙ single_same (fin s (suc m) e) f; zero = λ z. let o : suc m ≡ 0 = cc in absurd (omega arith) }
back (none s t) f =
    let p : to_single (add binary64 (nil t) (nil false)) ≡ nil false = ap to_single (two_zeros t false ∙ ap nil (no_minus t)) ∙ single_same (nil false) (unfold fits in tt) in
    record { same = λ n. p ∙ plus-sign s n; zero = λ _. p }

-- ---- the colour

module _ (side terms : ℕ) (least : 1 ≤ side) (x y : Float) (c : Linear) where
  pub unit-returns : Fin binary32 x → Fin binary32 y → Fin binary32 c.r → Fin binary32 c.g → Fin binary32 c.b → ReturnedColour c (corrected (unit_model side terms) x y c).colour
  unfolding mixed unshaded unit_model affine_row
  unit-returns p q r g b =
      let zr = zero_times c.r r.finite in
      let zg = zero_times c.g g.finite in
      let zb = zero_times c.b b.finite in
      rw (channel side terms least p q c.r r, channel side terms least p q c.g g, channel side terms least p q c.b b)
      record {
        r = back (near-and (near-and (once c.r (widened r)) zg) zb) r.fit;
        g = back (near-and (and-near zr (once c.g (widened g))) zb) g.fit;
        b = back (and-near (zeros zr zg) (once c.b (widened b))) b.fit;
      }
