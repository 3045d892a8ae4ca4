-- What sentences 5, 6 and 7 say where they do not hold: 5 and 6 are one comparison each, and 6 and 7 are a group, passed where neither holds. Assumes nothing.
use mathlib.Core.Path.{◌≡◌, refl}
use mathlib.Core.Bool.{true, false}
use mathlib.Core.List.{List}
use Prim.Native.Nat.{ℕ, ◌*◌, ◌≤◌}
use borrow.Author.Tests.{ltb-false}
use lib.Ieee.{Float}
use Rattle.sentences.specs.Sentences.{refusal, at, fresh, sound}
use Rattle.sentences.proofs.Laws.{behind, none-holds}
use Rattle.answers.proofs.Answers.{ahead_on}
use Rattle.references.specs.References.{bad_positions, short_scratch, too_many, reference_placement}

pub room_in : (lent n : ℕ) → short_scratch lent n ≡ false → 4 * n ≤ lent
unfolding short_scratch
room_in lent n h = ltb-false lent (4 * n) h

pub few_in : (n : ℕ) → too_many n ≡ false → n ≤ 16384
unfolding too_many
few_in n h = ltb-false 16384 n h

-- ---- the group of 6 and 7

module _ (side : ℕ) (flat : List Float) (n : ℕ) where
  pub references-sound : sound (reference_placement side flat n) ≡ true
  unfolding reference_placement sound fresh
  references-sound = refl

  module _ (e : 0 ≡ refusal (reference_placement side flat n)) where
    none : (m : ℕ) → at m (reference_placement side flat n) ≡ false
    none m = none-holds (reference_placement side flat n) references-sound m e

    pub few-placed : n ≤ 16384
    unfolding reference_placement at
    few-placed = few_in n (none 6)

    pub positions-placed : bad_positions side flat n ≡ false
    unfolding reference_placement at
    positions-placed = none 7

-- a call's `check` over this group: what it refuses is passed on, or it is passed
pub ruleset placements = (ahead_on, behind, references-sound)
