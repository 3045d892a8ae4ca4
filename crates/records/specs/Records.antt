-- References as records, and the flat floats that they stand for, eight each. Definitions only.
use Rattle.std.specs.Prelude.{cond, List, [], ◌∷◌, ◌++◌, ℕ, Float}
use Rattle.std.specs.Float.{nan}
use Rattle.color.specs.declared.Linear.{Linear}
use Rattle.references.specs.References.{too_many}
use Rattle.records.specs.declared.Reference.{Reference}

-- "eight f32 (x, y, observed, nominal)"
abbrev pub eight : Reference → List Float
eight p = p.x ∷ p.y ∷ p.observed.r ∷ p.observed.g ∷ p.observed.b ∷ p.nominal.r ∷ p.nominal.g ∷ p.nominal.b ∷ []

-- all of them, one after the other
unfoldable pub flattened : List Reference → List Float
flattened [] = []
flattened (p ∷ ps) = eight p ++ flattened ps

-- how many of n records are copied: none where sentence 6 holds
unfoldable pub copied : ℕ → ℕ
copied n = cond (too_many n) 0 n

-- what stands past the end of a list of records
abbrev pub no_colour : Linear
no_colour = record { r = nan; g = nan; b = nan }

abbrev pub no_reference : Reference
no_reference = record { x = nan; y = nan; observed = no_colour; nominal = no_colour }
