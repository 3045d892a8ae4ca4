-- "A card inside its margin holds no such score, so nobody's guarantee shrinks" (document 02, P2): none that reads as 2. Definitions only.
use Rattle.std.specs.Prelude.{ℕ, ◌<◌, get_or}
use Rattle.std.specs.Float.{nan}
use Rattle.margin.specs.declared.Threshold.TheVariants.{Nine}
use Rattle.reading.specs.Read.{reads}
use Rattle.guarantee.specs.Card.{Setting, Card, modules, chroma_scores, scored_card, refined_card, unmasked_card}
use Rattle.guarantee.specs.Guarantee.{Singles, InMargin, Readable, InMarginAt, NoNan}

-- each listed module's score, as scoring, refinement and unmasking left it, and each chroma score reads as a bit
pub record NoneErased (s : Setting) (c : Card) : Type 0 where
  pub scored : (i : ℕ) → i < modules s → reads (get_or (scored_card s c).luma i nan) < 2
  pub refined : (i : ℕ) → i < modules s → reads (get_or (refined_card s c).luma i nan) < 2
  pub unmasked : (i : ℕ) → i < modules s → reads (get_or (unmasked_card s c).list i nan) < 2
  pub chroma : (j : ℕ) → j < chroma_scores s → reads (get_or (scored_card s c).chroma j nan) < 2

-- on the premises of the read guarantee
abbrev pub NoneErasedInside : Type 0
NoneErasedInside = (s : Setting) (c : Card) → Singles s → InMargin s → Readable s c → NoneErased s c

-- and on those of the guarantee at 9
abbrev pub NoneErasedAtNine : Type 0
NoneErasedAtNine = (s : Setting) (c : Card) → Singles s → InMarginAt Nine s → Readable s c → NoNan s c → NoneErased s c
