-- The corrected colour of a reference is what was seen of it, unshaded and then mixed; it has a mark where its position says so. Assumes nothing.
use mathlib.Core.Path.{◌≡◌}
use mathlib.Core.List.{List}
use Prim.Native.Nat.{ℕ}
use lib.Ieee.{Float}
use Rattle.loops.specs.Loops.{raise}
use Rattle.illum.specs.declared.IlluminationModel.{IlluminationModel}
use Rattle.illum.specs.declared.Unshaded.{Unshaded}
use Rattle.illum.specs.declared.Marked.{Marked}
use Rattle.illum.specs.Correct.{unshaded, mixed, count_held}
use Rattle.illum.proofs.Marks.{counts-position}
use Rattle.illum.specs.declared.Spot.{Spot}
use Rattle.references.specs.References.{seen_at}
use Rattle.measure.specs.Measure.{corrected_at, held_reference}

module _ (model : IlluminationModel) (flat : List Float) (i : ℕ) (o : Spot) (d : Unshaded) (m : Marked)
    (eo : o ≡ seen_at flat i) (ed : d ≡ unshaded model o.x o.y o.colour) (em : m ≡ mixed model d) where
  pub seen-colour : m.colour ≡ corrected_at model flat i
  unfolding corrected_at
  seen-colour = rw (em, ed, eo)

  pub seen-counted : (k r : ℕ) → r ≡ count_held d k → r ≡ raise (held_reference model flat) i k
  unfolding held_reference
  seen-counted k r e = counts-position model _ _ _ d k r (held_reference model flat) i e ed (rw eo)
