-- Premises of the read guarantee that hold by themselves: every bit pattern is one of an f32, and a measured record holds f32 values; drawing meets the sentences on the layout and the places that scoring
-- meets, and its own 5. Assumes nothing.
use mathlib.Core.Path.{◌≡◌, refl, sym, ◌∙◌}
use mathlib.Core.Bool.{Bool, true, false}
use mathlib.Core.Logic.{◌⊎◌, inl, inr}
use mathlib.Core.List.{List, [], ◌∷◌}
use Prim.Native.Nat.{ℕ, zero, suc, ◌+◌, ◌*◌}
use native.Mathlib.Omega.{arith}
use borrow.Author.Tests.{le-ltb}
use lib.ListN.{length}
use Rattle.sentences.specs.Sentences.{◌when◌, refusal, decided, sound, fresh}
use Rattle.sentences.proofs.Laws.{holds, passed, behind, split, or_eq, or_ge}
use Rattle.limits.specs.Chroma.{chroma_on}
use Rattle.layout.specs.Groups.{shape, placement, Paired}
use Rattle.layout.proofs.Laws.{shape-sound, placement-sound}
use Rattle.answers.specs.Answers.{gives}
use Rattle.modulate.specs.Draw as drawing
use Rattle.modulate.specs.Draw.{entries_of, short_bits, short_hues, bad_draw_lengths, draw_sentences, draw_of}
use Rattle.modulate.proofs.Lengths.{draw_lengths, bits_long, hues-long}
use Rattle.illum.specs.declared.IlluminationModel.{IlluminationModel}
use Rattle.measure.specs.declared.Measurement.{Measurement}
use Rattle.measure.specs.Measure.{measure_of}
use Rattle.measure.proofs.Passes.{answered-passes}
use Rattle.demod.specs.Call as scoring
use Rattle.demod.proofs.Accepted as scored
use Rattle.guarantee.specs.Card.{Setting, Card, modules, chroma_scores, to_draw, drawn_card, to_score, scored_card}
use Rattle.guarantee.specs.Guarantee.{Singles}
use Rattle.card.specs.declared.Card as opened
use Rattle.readout.specs.Reading.{setting_of}
use Rattle.reader.specs.File.{sheet_of, references_of}
use Rattle.reader.specs.Fitting.{to_measure}
use Rattle.reader.proofs.Listed.{floats-fit}
use Rattle.promises.specs.Premises.{DrawingRoom, RefusedByLength}

-- ---- the palette and the noise record of a file are f32 values

pub file-singles : (s : List ℕ) (card : opened.Card) (m : IlluminationModel) (r : Measurement) → (measure_of (to_measure (sheet_of s card) (references_of s card) m)).said ≡ gives r →
    Singles (setting_of (sheet_of s card) m r.noise)
unfolding sheet_of references_of
file-singles s card m r e =
    let palette = floats-fit s card.palette (2 + 8 * card.settings.hues) in
    let h = (answered-passes (to_measure (sheet_of s card) (references_of s card) m) (floats-fit s card.references.at (8 * card.references.count)) palette r e).held in
    record { palette = palette; l0 = h.l0; l1 = h.l1; sigma-l = h.sigma-l; sigma-ab = h.sigma-ab; sigma-ab-dark = h.sigma-ab-dark; sigma-ab-light = h.sigma-ab-light }

-- ---- drawing where scoring was accepted

drawn_by : (q : drawing.Card) (n : ℕ) → (decided n (drawing.not_drawn q) (drawing.all_drawn q)).number ≡ n
unfolding decided
drawn_by q zero = refl
drawn_by q (suc n) = refl

drawn-number : (q : drawing.Card) → (draw_of q).number ≡ refusal (draw_sentences q)
unfolding draw_of
drawn-number q = drawn_by q (refusal (draw_sentences q))

module _ (s : Setting) (c : Card) (z : (scored_card s c).number ≡ 0) where
  nothing : 0 ≡ refusal (scoring.sentences_of (to_score s c))
  nothing = sym z ∙ scored.number (to_score s c)

  pairs : Paired s.xs s.ys s.cxs s.cys
  pairs = (scored.accepted (to_score s c) nothing).lengths.pairs

  -- the two groups are passed
  shape-passed : 0 ≡ refusal (shape s.layout)
  unfolding scoring.sentences_of
  shape-passed = (split (shape s.layout) _ (shape-sound s.layout) nothing).0

  placement-passed : 0 ≡ refusal (placement s.layout s.xs s.ys s.cxs s.cys)
  unfolding scoring.sentences_of sound fresh
  placement-passed =
      let past-shape = (split (shape s.layout) _ (shape-sound s.layout) nothing).1 in
      let past-lengths = (split (_ ∷ []) _ refl past-shape).1 in
      (split (placement s.layout s.xs s.ys s.cxs s.cys) _ (placement-sound s.layout s.xs s.ys s.cxs s.cys) past-lengths).0

  -- 5 is left
  abbrev short : Bool
  short = bad_draw_lengths c.bits s.layout s.xs s.ys s.cxs s.cys c.levels c.drawn

  by_length : (n : ℕ) → n ≡ refusal ((5 when short) ∷ placement s.layout s.xs s.ys s.cxs s.cys) → (drawn_card s c).number ≡ n
  unfolding draw_sentences
  by_length n e = drawn-number (to_draw s c) ∙ sym (behind 0 (shape s.layout) _ (shape-sound s.layout) n shape-passed refl e)

  if_short : short ≡ true → (drawn_card s c).number ≡ 5
  if_short t = by_length 5 (holds 5 true short _ (sym t) refl)

  if_long : short ≡ false → (drawn_card s c).number ≡ 0
  if_long t = by_length 0 (passed 5 false short _ 0 (sym t) refl placement-passed)

  either : (b : Bool) → short ≡ b → ((drawn_card s c).number ≡ 0) ⊎ ((drawn_card s c).number ≡ 5)
  either true t = inr (if_short t)
  either false t = inl (if_long t)

  hues-fit : DrawingRoom s c → (b : Bool) → chroma_on s.layout.hues ≡ b → false ≡ short_hues (length c.drawn) s.layout (modules s) (length s.cxs)
  unfolding short_hues
  hues-fit r true on = rw on (sym (le-ltb (length c.drawn) (entries_of s.layout (modules s) (length s.cxs)) (r.hues on)))
  hues-fit r false off = rw off refl

  has_room : DrawingRoom s c → false ≡ short
  unfolding bad_draw_lengths short_bits
  has_room r =
      or_eq (length s.xs) (length s.ys) _ false pairs.modules
      (or_eq (length s.cxs) (length s.cys) _ false pairs.cells
      (or_ge (length c.bits) (modules s + chroma_scores s) _ false r.bits
      (or_ge (length c.levels) (modules s) _ false r.levels
      (hues-fit r (chroma_on s.layout.hues) refl))))

  room_of : (b : Bool) → short ≡ b → (drawn_card s c).number ≡ 0 → DrawingRoom s c
  room_of true t e = absurd (omega (arith, if_short t))
  room_of false t e =
      let l = draw_lengths c.bits s.layout s.xs s.ys s.cxs s.cys c.levels c.drawn t in
      record {
        bits = bits_long (length c.bits) s.layout (modules s) (length s.cxs) l.bits_in;
        levels = l.levels_in;
        hues = hues-long (length c.drawn) s.layout (modules s) (length s.cxs) l.hues_in;
      }

  pub refused_by_length : RefusedByLength s c
  refused_by_length = record { number = either short refl; drawn = λ r. if_long (sym (has_room r)); room = room_of short refl }
