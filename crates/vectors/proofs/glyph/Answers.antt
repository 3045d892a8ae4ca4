-- `vectors::glyph` meets its contract: its test is that of the definition. Assumes nothing.
use Rattle.std.proofs.Common.{◌≡◌, ℕ, ◌+◌, ◌-◌, ◌<◌, ◌≤◌, le-ltb, lt-ltb}
use Rattle.vectors.specs.Answers.{glyph_of}
use Rattle.vectors.proofs.glyph.Goals as goal

module _ (d : ℕ) where
  decimal : d < 10 → d + 48 ≡ glyph_of d
  unfolding glyph_of
  decimal h = cc (lt-ltb d 10 h)

  letter : 10 ≤ d → d - 10 + 65 ≡ glyph_of d
  unfolding glyph_of
  letter h = cc (le-ltb d 10 h)

pub returns-then-d-lt10 : goal.returns-then-d-lt10
returns-then-d-lt10 c = search (decimal)

pub returns : goal.returns
returns c = search (letter)
