-- `measure::note_at` meets its contract: the nominal colour is known, and the three numbers are placed; by its mark they are 0, or those of the colour that is read. Assumes nothing.
use mathlib.Core.Path.{◌≡◌}
use mathlib.Core.Bool.{true, false}
use mathlib.Core.List.{List}
use Prim.Native.Nat.{ℕ}
use lib.Ieee.{Float, binary32, add, sub, mul, eq}
use Rattle.color.specs.declared.Linear.{Linear}
use Rattle.color.specs.declared.Lab.{Lab}
use Rattle.color.specs.Color.{linear_to_lab}
use Rattle.references.specs.References.{nominal_at}
use Rattle.measure.specs.declared.Known.{Known}
use Rattle.measure.specs.Measure.{nominal_lab}
use Rattle.measure.specs.Columns.{m0, counted, square_of, known_of, noted, placed, colour_at}
use borrow.Author.Rules.{rules}
use Rattle.measure.proofs.note_at.Goals as goal

module _ (palette flat : List Float) (n i : ℕ) (s s' : List Float) (nominal : Known) (c : Linear) (en : nominal ≡ known_of palette c) (ec : c ≡ nominal_at flat i) where
  no_list : (lab : Lab) → s' ≡ placed n i m0 m0 nominal.mark s → eq nominal.mark m0 ≡ true → s' ≡ noted lab palette flat n i s
  unfolding noted counted known_of nominal_lab
  no_list lab e z = rw (e, ← ec, rw en at z, en)

  numbers : (corrected : Lab)
      → s' ≡ placed n i corrected.l
      (add binary32 (mul binary32 (sub binary32 corrected.a nominal.a) (sub binary32 corrected.a nominal.a)) (mul binary32 (sub binary32 corrected.b nominal.b) (sub binary32 corrected.b nominal.b)))
      nominal.mark s
      → eq nominal.mark m0 ≡ false → corrected ≡ linear_to_lab (colour_at n i s) → s' ≡ noted (linear_to_lab (colour_at n i s)) palette flat n i s
  unfolding noted counted square_of known_of nominal_lab
  numbers corrected e z el = rw (e, ← ec, rw en at z, en, el)

pub returns-then-nominal : goal.returns-then-nominal
returns-then-nominal c = (search (no_list), search rules)

pub returns : goal.returns
unfolding colour_at
returns c = (search (numbers), search rules)
