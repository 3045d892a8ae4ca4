-- What `read_bits` leaves: "A card is read from its raw colours: scoring corrects them by the model, refinement takes the luma scores that scoring left, unmasking those that refinement left, and
-- reading takes these and the chroma scores". The first of these calls that is refused decides. The calls are those of the read guarantee's card (crate `guarantee`). Definitions only.
use Rattle.std.specs.Prelude.{◌≡◌, List, [], ◌++◌, ℕ, ℤ, take, Float, Result}
use Rattle.sentences.specs.Sentences.{decided}
use Rattle.layout.specs.declared.Layout.{Layout}
use Rattle.answers.specs.declared.refusal.Refusal.{Refusal}
use Rattle.answers.specs.Answers.{Said, refused_by, gives, said}
use Rattle.illum.specs.declared.IlluminationModel.{IlluminationModel}
use Rattle.stats.specs.declared.ChannelStats.{ChannelStats}
use Rattle.demod.specs.declared.ScoreReport.{ScoreReport}
use Rattle.demod.specs.Call.{report_of}
use Rattle.guarantee.specs.Card.{Setting, Card, modules, chroma_scores, drawn_card, to_score, scored_card, refined_card, unmasked_card, luma_read, chroma_read, Accepted, bits_drawn, bits_read}
use Rattle.guarantee.specs.Guarantee.{Singles, InMargin, Near}

-- ---- what the call is handed

abbrev pub setting : Layout → List ℤ → List ℤ → List ℕ → List ℕ → List Float → ℕ → IlluminationModel → ChannelStats → Setting
setting layout xs ys cxs cys palette mask model noise =
    record { layout = layout; xs = xs; ys = ys; cxs = cxs; cys = cys; palette = palette; mask = mask; model = model; noise = noise }

-- a card that is read, of which nobody says what it was drawn from
abbrev pub card : List Float → List Float → List Float → List Float → List Float → List Float → List ℕ → List ℕ → Card
card raw craw luma colours chroma scratch bits symbols =
    record {
      bits = [];
      raw = raw;
      craw = craw;
      levels = [];
      drawn = [];
      luma = luma;
      colours = colours;
      chroma = chroma;
      scratch = scratch;
      luma_bits = bits;
      chroma_bits = symbols;
    }

-- the same card, drawn from these bits into these levels and hues
abbrev pub drawn_from : List ℕ → List ℕ → List ℕ → Card → Card
drawn_from bits levels hues c =
    record {
      bits = bits;
      raw = c.raw;
      craw = c.craw;
      levels = levels;
      drawn = hues;
      luma = c.luma;
      colours = c.colours;
      chroma = c.chroma;
      scratch = c.scratch;
      luma_bits = c.luma_bits;
      chroma_bits = c.chroma_bits;
    }

-- ---- what it gives back

-- the six lent slices
pub record Lent : Type 0 where
  pub luma : List Float
  pub colours : List Float
  pub chroma : List Float
  pub scratch : List Float
  pub bits : List ℕ
  pub symbols : List ℕ

abbrev pub lent : List Float → List Float → List Float → List Float → List ℕ → List ℕ → Lent
lent luma colours chroma scratch bits symbols =
    record { luma = luma; colours = colours; chroma = chroma; scratch = scratch; bits = bits; symbols = symbols }

-- document 01's number, the answer, which is of the same kind as scoring's, and these
pub record Left : Type 0 where
  pub number : ℕ
  pub answer : Said ScoreReport
  pub lent : Lent

abbrev pub leaving : Said ScoreReport → Lent → Left
leaving a m = record { number = a.number; answer = a; lent = m }

abbrev pub left : Result ScoreReport Refusal → List Float → List Float → List Float → List Float → List ℕ → List ℕ → Left
left r luma colours chroma scratch bits symbols = leaving (said r) (lent luma colours chroma scratch bits symbols)

-- a call that left the memory m is refused by number n
abbrev pub stopped : Lent → ℕ → Left
stopped m n = leaving (refused_by n) m

-- the last call is done: what is answered is what scoring reported
abbrev pub done : ScoreReport → Lent → Left
done report m = leaving (gives report) m

-- ---- the calls in turn

-- what the slices hold after each
abbrev pub after_scoring : Setting → Card → Lent
after_scoring s c = lent (scored_card s c).luma (scored_card s c).colours (scored_card s c).chroma c.scratch c.luma_bits c.chroma_bits

abbrev pub after_refinement : Setting → Card → Lent
after_refinement s c = lent (refined_card s c).luma (scored_card s c).colours (scored_card s c).chroma (refined_card s c).scratch c.luma_bits c.chroma_bits

abbrev pub after_unmasking : Setting → Card → Lent
after_unmasking s c = lent (unmasked_card s c).list (scored_card s c).colours (scored_card s c).chroma (refined_card s c).scratch c.luma_bits c.chroma_bits

abbrev pub after_luma : Setting → Card → Lent
after_luma s c = lent (unmasked_card s c).list (scored_card s c).colours (scored_card s c).chroma (refined_card s c).scratch (luma_read s c).list c.chroma_bits

abbrev pub after_chroma : Setting → Card → Lent
after_chroma s c = lent (unmasked_card s c).list (scored_card s c).colours (scored_card s c).chroma (refined_card s c).scratch (luma_read s c).list (chroma_read s c).list

-- each call's number, and where it is 0 the next call
unfoldable pub read_of : Setting → Card → Left
read_of s c =
    decided (scored_card s c).number (stopped (after_scoring s c))
    (decided (refined_card s c).number (stopped (after_refinement s c))
    (decided (unmasked_card s c).number (stopped (after_unmasking s c))
    (decided (luma_read s c).number (stopped (after_luma s c))
    (decided (chroma_read s c).number (stopped (after_chroma s c))
    (done (report_of (to_score s c)) (after_chroma s c))))))

-- ---- the read guarantee

-- the bits that the call left: one for each listed module, then those of the symbols
abbrev pub bits_left : Setting → Left → List ℕ
bits_left s f = take (modules s) f.lent.bits ++ take (chroma_scores s) f.lent.symbols

-- what an accepted call, which left f, says of the card d: that it is accepted; that the bits left are its bits read; and that they are its bits drawn, where it was drawn, inside the margin, and its
-- corrected colours are near what was drawn
pub record ReadAs (s : Setting) (d : Card) (f : Left) : Type 0 where
  pub accepted : Accepted s d
  pub read : bits_left s f ≡ bits_read s d
  pub drawn : Singles s → InMargin s → (drawn_card s d).number ≡ 0 → Near s d → bits_left s f ≡ bits_drawn s d

-- a call whose number is 0 says so of every card that has what it was handed, whatever bits that was drawn from
pub record Joined (s : Setting) (c : Card) (f : Left) : Type 0 where
  pub accepted : f.number ≡ 0 → (drawn levels hues : List ℕ) → ReadAs s (drawn_from drawn levels hues c) f
