-- 0xRRGGBB and the three bytes undo each other. Assumes nothing.
use mathlib.Core.Path.{◌≡◌}
use Prim.Native.Nat.{ℕ, ◌+◌, ◌*◌, ◌/◌, ◌%◌, ◌<◌}
use native.Mathlib.Omega.{arith}
use Rattle.color.specs.Color.{srgb8, from_hex, to_hex}

-- the lower 24 bits come back
pub hex-back : (n : ℕ) → to_hex (from_hex n) ≡ n % 16777216
unfolding from_hex to_hex
hex-back n = omega arith

module _ (r g b : ℕ) (hr : r < 256) (hg : g < 256) (hb : b < 256) where
  pub bytes_back : from_hex (to_hex (srgb8 r g b)) ≡ srgb8 r g b
  unfolding from_hex to_hex
  bytes_back =
      let x : (r * 65536 + g * 256 + b) / 65536 % 256 ≡ r = omega arith in
      let y : (r * 65536 + g * 256 + b) / 256 % 256 ≡ g = omega arith in
      let z : (r * 65536 + g * 256 + b) % 256 ≡ b = omega arith in
      cc
