-- What it is to read as no bit (document 02, P2): "A score that is zero or NaN reads as 2, before as after unmasking". Definitions only.
use Rattle.std.specs.Prelude.{◌≡◌, false, ℕ, zero, suc, pos, Float}
use Rattle.std.specs.Float.{fin}
use Rattle.std.specs.Float.Ieee.{lt, neg}
use Rattle.reading.specs.Read.{reads}

-- what a score reads as once its sign is turned: 0 and 1 change places, and an erasure stays one
abbrev pub turned : ℕ → ℕ
turned zero = 1
turned (suc zero) = 0
turned (suc (suc n)) = 2

-- v is neither below nor above zero: one of the two zeros, or NaN
pub record NoSign (v : Float) : Type 0 where
  pub not-below : lt v (fin false 0 (pos 0)) ≡ false
  pub not-above : lt (fin false 0 (pos 0)) v ≡ false

pub record Erasures : Type 0 where
  -- a score reads as 2 exactly where it is neither below nor above zero
  pub erased : (v : Float) → NoSign v → reads v ≡ 2
  pub only : (v : Float) → reads v ≡ 2 → NoSign v
  -- "before as after unmasking", which turns signs
  pub turning : (v : Float) → reads (neg v) ≡ turned (reads v)
