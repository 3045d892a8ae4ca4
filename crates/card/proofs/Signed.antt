-- How large a decoded position is: 16 bits as a signed number are at most 2^15 in magnitude. Assumes nothing.
use mathlib.Core.Path.{◌≡◌, refl}
use mathlib.Core.Bool.{Bool, true, false, cond}
use mathlib.Core.List.{List}
use Prim.Native.Nat.{ℕ, ◌+◌, ◌-◌, ◌*◌, ◌<◌}
use native.Mathlib.Omega.{arith}
use borrow.Author.Tests.{ltb-true, ltb-false}
use lib.Dec.{ltb}
use lib.IntN.{pos, negsuc}
use lib.Signed.{mag}
use Rattle.card.specs.Number.{u16_at, i16_of, i16_at}
use Rattle.card.specs.Sections.{position_of}

size_by : (n : ℕ) (b : Bool) → ltb n 32768 ≡ b → mag (cond b (pos n) (negsuc (65535 - n))) < 32768
size_by n true e = ltb-true n 32768 e
size_by n false e = omega (arith, ltb-false n 32768 e)

pub i16_small : (n : ℕ) → mag (i16_of n) < 32768
unfolding i16_of
i16_small n = size_by n (ltb n 32768) refl

pub position-small : (s : List ℕ) (at i : ℕ) → mag (position_of s at i) < 32768
unfolding i16_at
position-small s at i = i16_small (u16_at s (at + 16 * i))
