-- The samples of a block of corrected colours: the Lab of each, and the weight by which its scores count, in two lists. Definitions only.
use Rattle.std.specs.Prelude.{List, ℕ, Float}
use Rattle.color.specs.declared.Linear.{Linear}
use Rattle.color.specs.declared.Lab.{Lab}
use Rattle.color.specs.Color.{linear_to_lab}
use Rattle.observed.specs.Entries.{number_at, lab_at, Block}
use Rattle.stats.specs.declared.ChannelStats.{ChannelStats}
use Rattle.stats.specs.Noise.{nearest, weight, reliability}

-- the Lab of a colour, its distance from the nearest palette colour, and the weight of a distance
unfoldable pub lab_of : (ℕ → Linear) → ℕ → Lab
lab_of colour j = linear_to_lab (colour j)

unfoldable pub distance_of : ChannelStats → List Float → ℕ → (ℕ → Lab) → ℕ → Float
distance_of n palette hues sample j = nearest n (sample j) palette hues

unfoldable pub weight_of : (ℕ → Float) → ℕ → Float
weight_of distance j = weight (distance j)

-- the three in one: the reliability of a colour
unfoldable pub reliability_of : ChannelStats → List Float → ℕ → (ℕ → Linear) → ℕ → Float
reliability_of n palette hues colour j = reliability n (linear_to_lab (colour j)) palette hues

-- the samples of k colours
pub record Samples (n : ChannelStats) (palette : List Float) (hues : ℕ) (colour : ℕ → Linear) (k : ℕ) (labs : List Lab) (weights : List Float) : Type 0 where
  pub sampled : Block lab_at (lab_of colour) k labs
  pub believed : Block number_at (reliability_of n palette hues colour) k weights
