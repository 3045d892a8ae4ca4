-- The curve's fractions at byte v are the standard's at v / 255, cross-multiplied; and 0.04045 * 255 lies between 10 and 11, so the two parts meet where the standard's do. Assumes nothing.
use mathlib.Core.Path.{◌≡◌, refl, sym, ap, ◌∙◌}
use Prim.Native.Nat.{ℕ, ◌+◌, ◌*◌, ◌^◌, ◌≤◌, ◌<◌}
use native.Mathlib.Nat.{one-le-pow, pow-suc, pow-zero, one-mul}
use native.Mathlib.Omega.{arith}
use borrow.Author.Tests.{le-leb, lt-leb}
use Rattle.floatlaws.specs.Whole.{mul_pow}
use Rattle.color.specs.Srgb.{root, curve}
use Rattle.promises.specs.Colour.{AtMost, Below, IsPower, encoded, straight_to, scaled, shifted, SrgbFormula}

-- ---- the two parts of the curve

straight-part : (v : ℕ) → v ≤ 10 → curve v ≡ root 1 (10 * v) 32946
unfolding curve
straight-part v h = rw (le-leb v 10 h)

power-part : (v : ℕ) → 10 < v → curve v ≡ root 5 ((40 * v + 561) ^ 12) (10761 ^ 12)
unfolding curve
power-part v h = rw (lt-leb v 10 h)

-- ---- powers of equal fractions

first_power : (x : ℕ) → x ^ 1 ≡ x
first_power x = pow-suc x 0 ∙ ap (λ (y : ℕ). y * x) (pow-zero x) ∙ one-mul x

powers : (k a b c d : ℕ) → a * d ≡ c * b → a ^ k * d ^ k ≡ c ^ k * b ^ k
powers k a b c d e = sym (mul_pow a d k) ∙ ap (λ (x : ℕ). x ^ k) e ∙ mul_pow c b k

-- ---- the standard's

straight : (v : ℕ) → AtMost (encoded v) straight_to → IsPower (curve v) (scaled v) 1 1
straight v h =
    rw (straight-part v (omega arith)) (record { root = refl; positive = omega arith; equal = rw (first_power (scaled v).num) (omega arith) })

power : (v : ℕ) → Below straight_to (encoded v) → IsPower (curve v) (shifted v) 12 5
power v h =
    rw (power-part v (omega arith))
    (record {
      root = refl;
      positive = one-le-pow 12 10761 (omega arith);
      equal = powers 12 (40 * v + 561) 10761 (shifted v).num (shifted v).den (omega arith);
    })

pub formula : SrgbFormula
formula = record { straight = straight; power = power }
