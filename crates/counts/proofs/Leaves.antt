-- The unit model leaves the colours bit for bit: it returns every finite colour but for -0 (crates/illum/proofs/UnitModel.antt), and the linear value of every byte is finite and not negative. Assumes nothing.
use mathlib.Core.Path.{◌≡◌, sym, ap, ◌∙◌}
use mathlib.Core.Bool.{true, false, true≢false}
use Prim.Native.Nat.{ℕ, ◌/◌, ◌%◌, ◌≤◌, ◌<◌}
use native.Mathlib.Omega.{arith}
use lib.IntN.{pos}
use lib.Ieee.{Float, fin, binary32, round, fits}
use Rattle.floatlaws.specs.Value.{negative}
use Rattle.floatlaws.specs.Finite.{Fin}
use Rattle.color.specs.declared.Linear.{Linear}
use Rattle.color.specs.Srgb.{srgb_to_linear}
use Rattle.color.specs.Color.{fraction, srgb8_to_linear, linear_to_lab, srgb8_to_lab}
use Rattle.color.proofs.Linears.{srgb_nearest}
use Rattle.illum.specs.Correct.{corrected, unit_model}
use Rattle.illum.specs.Returned.{ReturnedColour}
use Rattle.illum.proofs.UnitModel.{unit-returns}
use Rattle.counts.specs.Counts.{byte_at, colour_at, half, sample_at, UnitLeaves}

-- a component that is finite and not negative
record Clean (v : Float) : Type 0 where
  is : Fin binary32 v
  sign : negative v ≡ false

not-minus : {v : Float} → Clean v → v ≡ fin true 0 (pos 0) → ⊥
not-minus p e = true≢false (sym (ap negative e) ∙ p.sign)

same_colour : (c d : Linear) → d.r ≡ c.r → d.g ≡ c.g → d.b ≡ c.b → d ≡ c
same_colour c d p q s = rw (p, q, s)

module _ (side terms : ℕ) (least : 1 ≤ side) (x y : Float) (px : Fin binary32 x) (py : Fin binary32 y) (c : Linear) where
  unit-leaves : Clean c.r → Clean c.g → Clean c.b → (corrected (unit_model side terms) x y c).colour ≡ c
  unit-leaves p q s =
      let r : ReturnedColour c (corrected (unit_model side terms) x y c).colour = unit-returns side terms least x y c px py p.is q.is s.is in
      same_colour c (corrected (unit_model side terms) x y c).colour (r.r.same (not-minus p)) (r.g.same (not-minus q)) (r.b.same (not-minus s))

-- ---- the colours: their bytes are below 256

byte_clean : (v : ℕ) → v < 256 → Clean (srgb_to_linear v)
byte_clean v h = let p = srgb_nearest v h in record { is = p.is; sign = p.sign }

pub unit-leaves_all : UnitLeaves
unfolding colour_at srgb8_to_linear
unit-leaves_all =
    record {
      leaves = λ side terms least x y px py i h.
          unit-leaves side terms least x y px py (srgb8_to_linear (colour_at i)) (byte_clean (byte_at (i / 1024)) (omega arith)) (byte_clean (byte_at (i / 32 % 32)) (omega arith)) (byte_clean (byte_at (i % 32)) (omega arith));
    }

-- so the sample is the colour's own Lab
half-fin : Fin binary32 half
unfolding fraction round fits
half-fin = record { fit = tt; finite = tt }

pub sample_is : (i : ℕ) → i < 32768 → sample_at i ≡ srgb8_to_lab (colour_at i)
unfolding sample_at
sample_is i h = ap linear_to_lab (unit-leaves_all.leaves 1 4 (omega arith) half half half-fin half-fin i h)
