-- The public calls of the margin check: the settings, and what each call answers. Their sentences are those of a noise record and a palette. Definitions only.
use Rattle.std.specs.Prelude.{Bool, List, ℕ, Float}
use Rattle.answers.specs.Answers.{Said, answered}
use Rattle.color.specs.Color.{whole}
use Rattle.stats.specs.declared.ChannelStats.{ChannelStats}
use Rattle.stats.specs.Calls.{sentences_of}
use Rattle.margin.specs.declared.Threshold.{Threshold}
use Rattle.margin.specs.declared.Threshold.TheVariants as threshold
use Rattle.margin.specs.Margin.{in_margin}

-- document 01's threshold is 13
abbrev pub margin_answer : ChannelStats → List Float → ℕ → Said Bool
margin_answer n palette hues = answered (sentences_of n palette hues) (in_margin (whole 13) n palette hues)

-- a setting's threshold: document 01's, and the second one
abbrev pub least_of : Threshold → Float
least_of threshold.Thirteen = whole 13
least_of threshold.Nine = whole 9

-- the same at a setting's threshold
abbrev pub margin_at_answer : Threshold → ChannelStats → List Float → ℕ → Said Bool
margin_at_answer least n palette hues = answered (sentences_of n palette hues) (in_margin (least_of least) n palette hues)
