-- Totals (crate `totals`): which refined scores sentence 19 refuses. Definitions only.
use Rattle.std.specs.Prelude.{◌≡◌, ℕ, ◌<◌, length, get_or}
use Rattle.std.specs.Float.{nan}
use Rattle.std.specs.Float.Ieee.{is_nan}
use Rattle.guarantee.specs.Card.{Setting, Card, scored_card, refined_card}
use Rattle.totals.specs.Score.{unfit}
use Rattle.promises.specs.Noise.{HeldAsSingles}

-- of a card whose scoring is accepted: a NaN, and no other, whether refinement is accepted or not
abbrev pub OnlyNanUnfit : Type 0
OnlyNanUnfit =
    (s : Setting) (c : Card) → HeldAsSingles s.noise → (scored_card s c).number ≡ 0 → (i : ℕ) → i < length s.xs
    → unfit (get_or (refined_card s c).luma i nan) ≡ is_nan (get_or (refined_card s c).luma i nan)
