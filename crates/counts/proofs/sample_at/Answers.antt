-- `sample_at` meets its contract: the colour's own Lab, since the unit model leaves it. Assumes nothing.
use mathlib.Core.Path.{◌≡◌, sym, ◌∙◌}
use Prim.Native.Nat.{ℕ, ◌<◌}
use Rattle.color.specs.declared.Lab.{Lab}
use Rattle.color.specs.Color.{srgb8_to_lab}
use Rattle.counts.specs.Counts.{colour_at, sample_at}
use Rattle.counts.proofs.Leaves.{unit-leaves_all, sample_is}
use Rattle.counts.proofs.sample_at.Goals as goal

own-lab : (i : ℕ) (r : Lab) → r ≡ srgb8_to_lab (colour_at i) → i < 32768 → r ≡ sample_at i
own-lab i r h l = h ∙ sym (sample_is i l)

pub returns : goal.returns
unfolding colour_at
returns c = (own-lab _ _ c.srgb8_to_lab.ensures c.requires, unit-leaves_all)
