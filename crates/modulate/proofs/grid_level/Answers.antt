-- `modulate::grid_level` meets its contract: the bit differs from the mask where exactly one of the two holds. Assumes nothing.
use mathlib.Core.Path.{◌≡◌, refl, ◌∙◌}
use mathlib.Core.Bool.{Bool, true, false, not, beq, xor}
use Prim.Native.Nat.{ℕ}
use mir.Val.{bool_byte}
use Rattle.symbols.specs.Mask.{luma_mask}
use Rattle.modulate.specs.Draw.{is_set, bit_of, grid_level}
use Rattle.modulate.proofs.grid_level.Goals as goal

differ : (a b : Bool) → bool_byte (not (beq a b)) ≡ bit_of (xor a b)
unfolding bit_of xor
differ true true = refl
differ true false = refl
differ false true = refl
differ false false = refl

level : (bit mask x y l : ℕ) (a b : Bool) → a ≡ is_set bit → b ≡ luma_mask mask x y → l ≡ bool_byte (not (beq a b)) → l ≡ grid_level bit mask x y
unfolding grid_level
level bit mask x y l a b e f h = rw (← e, ← f) (h ∙ differ a b)

pub returns : goal.returns
returns c = search (level)
