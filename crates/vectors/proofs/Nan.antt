-- Patterns and NaNs: a pattern above the infinity's, the sign taken off, is a NaN's, and every NaN is written by one pattern. Assumes nothing.
use Rattle.std.proofs.Common.{◌≡◌, ℕ, ◌*◌, ◌%◌, ◌<◌, ◌≤◌, Bool, true, not, T, sym, refl, ap, ◌∙◌, subst, le-ltb, lt-ltb}
use lib.Ieee.{Float, nan, Format, binary32, binary64, ones, hid, top, ne, div, of_bits, nan_bits, to_bits}
use lib.Ieee.Bits.{nan_bits_is, nan_bits_above}
use Rattle.floatlaws.specs.Nan.{a_nan, only_nan}

module _ (f : Format) (n : ℕ) where
  pub nan_pattern : ones f * hid f < n % top f → nan ≡ of_bits f n
  nan_pattern h = sym (only_nan (of_bits f n) (sym (nan_bits_is f n) ∙ nan_bits_above f n ∙ lt-ltb (ones f * hid f) (n % top f) h))

  pub no_nan-pattern : n % top f ≤ ones f * hid f → T (not (nan_bits f n))
  no_nan-pattern h = subst (λ (b : Bool). T (not b)) (sym (nan_bits_above f n ∙ le-ltb (ones f * hid f) (n % top f) h)) tt

-- zero by zero
pub nan_32 : div binary32 (of_bits binary32 0) (of_bits binary32 0) ≡ nan
unfolding div of_bits
nan_32 = refl

pub nan_64 : div binary64 (of_bits binary64 0) (of_bits binary64 0) ≡ nan
unfolding div of_bits
nan_64 = refl

-- the patterns that answers have for a NaN
pub word_32 : (x : Float) → ne x x ≡ true → 0x7FC0_0000 ≡ to_bits binary32 x
unfolding to_bits
word_32 x e = ap (to_bits binary32) (sym (a_nan x e))

pub word_64 : (x : Float) → ne x x ≡ true → 0x7FF8_0000_0000_0000 ≡ to_bits binary64 x
unfolding to_bits
word_64 x e = ap (to_bits binary64) (sym (a_nan x e))
