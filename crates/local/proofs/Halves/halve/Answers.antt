-- `local::Halves::halve` meets its contract: each sum and each count takes the sample or stays, by the same test. Assumes nothing.
use mathlib.Core.Bool.{Bool, true, false, not, cond}
use mathlib.Core.Path.{◌≡◌, refl}
use mir.Val.{bool_byte}
use Prim.Native.Nat.{ℕ, ◌+◌, ◌-◌}
use native.Mathlib.Nat.{add-zero}
use lib.Ieee.{Float, binary32, lt, add}
use Rattle.local.specs.Local.{halves, halved}
use Rattle.local.specs.Sums.{belongs}
use Rattle.local.specs.declared.Halves.{Halves}
use Rattle.local.proofs.Halves.halve.Goals as goal

by : (b : Bool) (y : Float) (s : Halves) → halves (cond b (add binary32 s.lo y) s.lo) (cond (not b) (add binary32 s.hi y) s.hi) (s.nl + cond b 1 0) (s.nh + (1 - cond b 1 0)) ≡ cond b (halves (add binary32 s.lo y) s.hi (s.nl + 1) s.nh) (halves s.lo (add binary32 s.hi y) s.nl (s.nh + 1))
by true y s = rw (add-zero s.nh)
by false y s = rw (add-zero s.nl)

byte : (b : Bool) → bool_byte b ≡ cond b 1 0
byte true = refl
byte false = refl

halved_by : (mean y lo hi : Float) (b : Bool) (k : ℕ) (s : Halves) → lo ≡ cond (belongs true mean y) (add binary32 s.lo y) s.lo → hi ≡ cond (belongs false mean y) (add binary32 s.hi y) s.hi → b ≡ lt y mean → k ≡ bool_byte b → halves lo hi (s.nl + k) (s.nh + (1 - k)) ≡ halved mean y s
unfolding halved belongs
halved_by mean y lo hi b k s el eh eb ek = rw (el, eh, ek, byte b, eb) (by (lt y mean) y s)

pub returns : goal.returns
returns c = search (halved_by)
