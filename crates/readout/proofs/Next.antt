-- What the answer of `bits::read_bits` makes of the text: where it refused, the line of its number; where it was done, the listing of what it left, its luma scores unmasked once more, which are then as
-- they were before unmasking. What is listed is there, since the call was not refused by 5. Assumes nothing.
use mathlib.Core.Path.{◌≡◌, refl, sym, ap, ◌∙◌}
use mathlib.Core.List.{List}
use Prim.Native.Nat.{ℕ, ◌*◌}
use native.Mathlib.Omega.{arith}
use lib.IntN.{ℤ}
use lib.ListN.{length}
use lib.Ieee.{Float}
use Rattle.sentences.specs.Sentences.{decided}
use Rattle.sentences.proofs.Laws.{refuses, accepts}
use Rattle.card.specs.declared.Settings.{Settings}
use Rattle.listing.specs.Text.{Text, written}
use Rattle.listing.specs.Listing.{listing, refused_line}
use Rattle.std.specs.Prelude.{Result, Ok, Err, ⊤}
use Rattle.answers.specs.declared.refusal.Refusal.{Refusal}
use Rattle.answers.specs.Answers.{number_of, said, Ended, ended}
use Rattle.modulate.specs.Score.{unmask_luma_of}
use Rattle.modulate.proofs.Written.{unmask-luma-long, unmask-luma-twice}
use Rattle.layout.specs.declared.Layout.{Layout}
use Rattle.illum.specs.declared.IlluminationModel.{IlluminationModel}
use Rattle.stats.specs.declared.ChannelStats.{ChannelStats}
use Rattle.demod.specs.declared.ScoreReport.{ScoreReport}
use Rattle.refine.specs.Refine.{squares}
use Rattle.guarantee.specs.Card.{Setting, Card, modules, scored_card, refined_card, unmasked_card}
use Rattle.guarantee.proofs.Known.{read-long}
use Rattle.bits.specs.Reading.{Left, setting, card, left, read_of}
use Rattle.answers.proofs.Answers.{numbered}
use Rattle.bits.proofs.Joined.{all_accepted, all_done}
use Rattle.bits.proofs.Never.{facts}
use Rattle.readout.specs.Sheet.{sheet}
use Rattle.readout.specs.Reading.{listing_of, Listable, text_of, zeros, no_bits_read, places_of, layout_of, score_text}

-- a listing of scores that were unmasked
pub relisted : (o : Result ⊤ Refusal) (l : List Float) (e : Ended Float) (t u : Text) (terms kept rejected n : ℕ) (xs ys : List ℤ) (bits : List ℕ) (k : ℕ) (chroma : List Float) (symbols : List ℕ) → ended o l ≡ e →
    u ≡ written (listing terms kept rejected n xs ys l bits k chroma symbols) t → u ≡ written (listing terms kept rejected n xs ys e.list bits k chroma symbols) t
relisted o l e t u terms kept rejected n xs ys bits k chroma symbols p h = rw (← p) h

-- what was left, and the text u that was written on t
module _ (s : Setting) (c : Card) (f : Left) (p : f ≡ read_of s c) (t u : Text) where
  abbrev text_by : ℕ → List ℕ
  text_by k = decided k refused_line (listing_of s c)

  is_text : (k : ℕ) (l : List ℕ) → f.number ≡ k → l ≡ text_by k → u ≡ written l t → u ≡ written (text_of s c) t
  unfolding text_of
  is_text k l e q h = h ∙ ap (λ (x : List ℕ). written x t) (q ∙ ap text_by (sym e ∙ ap (λ (g : Left). g.number) p))

  refused : (k : ℕ) → (k ≡ 0 → ⊥) → f.number ≡ k → u ≡ written (refused_line k) t → u ≡ written (text_of s c) t
  refused k z e h = is_text k (refused_line k) e (refuses refused_line (listing_of s c) k k z refl) h

  listed : f.number ≡ 0 →
      u ≡ written (listing s.model.terms s.model.kept s.model.rejected (modules s) s.xs s.ys (unmask_luma_of f.lent.luma s.layout.side s.xs s.ys s.layout.grid s.mask).list f.lent.bits (length f.lent.chroma) f.lent.chroma f.lent.symbols) t →
      u ≡ written (text_of s c) t
  listed e h =
      let z = ap (λ (g : Left). g.number) (sym p) ∙ e in
      is_text 0 (listing_of s c) e (accepts refused_line (listing_of s c) 0 0 refl refl)
      (rw (p ∙ all_done s c z, unmask-luma-twice (refined_card s c).luma s.layout.side s.xs s.ys s.layout.grid s.mask (all_accepted s c z).unmasking) at h)

-- the same over plain names
module _ (q : Layout) (xs ys : List ℤ) (raw : List Float) (cxs cys : List ℕ) (craw palette : List Float) (mask : ℕ) (m : IlluminationModel) (n : ChannelStats)
    (luma colours chroma scratch : List Float) (bits symbols : List ℕ) (o : Result ScoreReport Refusal) (l d h k : List Float) (b y : List ℕ)
    (p : left o l d h k b y ≡ read_of (setting q xs ys cxs cys palette mask m n) (card raw craw luma colours chroma scratch bits symbols)) where
  abbrev s : Setting
  s = setting q xs ys cxs cys palette mask m n

  abbrev c : Card
  c = card raw craw luma colours chroma scratch bits symbols

  pub not-read : (t u : Text) (j : Refusal) (i : ℕ) → i ≡ number_of j → o ≡ Err j → u ≡ written (refused_line i) t → u ≡ written (text_of (setting q xs ys cxs cys palette mask m n) (card raw craw luma colours chroma scratch bits symbols)) t
  not-read t u j i e r f = refused s c (left o l d h k b y) p t u (number_of j) (numbered j) (ap (λ x. (said x).number) r) (f ∙ ap (λ (n : ℕ). written (refused_line n) t) e)

  pub is_read : (t u : Text) (report : ScoreReport) → o ≡ Ok report →
      u ≡ written (listing m.terms m.kept m.rejected (length xs) xs ys (unmask_luma_of l q.side xs ys q.grid mask).list b (length h) h y) t →
      u ≡ written (text_of (setting q xs ys cxs cys palette mask m n) (card raw craw luma colours chroma scratch bits symbols)) t
  is_read t u report r = listed s c (left o l d h k b y) p t u (ap (λ x. (said x).number) r)

  pub listable : (report : ScoreReport) → o ≡ Ok report → Listable xs ys l h b y
  listable report r =
      let z = ap (λ (g : Left). g.number) (sym p) ∙ ap (λ x. (said x).number) r in
      let a = all_accepted s c z in
      let e = p ∙ all_done s c z in
      let scores = unmask-luma-long (refined_card s c).luma q.side xs ys q.grid mask a.unmasking in
      record {
        ys_are = omega (arith, (facts s c a.scoring).fit.lengths.pairs.modules);
        luma_is = omega (arith, scores, ap (λ (g : Left). length g.lent.luma) e);
        bits_are = omega (arith, scores, read-long (unmasked_card s c).list bits a.luma, ap (λ (g : Left). length g.lent.bits) e);
        symbols_are = omega (arith, read-long (scored_card s c).chroma symbols a.chroma, ap (λ (g : Left). length g.lent.chroma) e, ap (λ (g : Left). length g.lent.symbols) e);
      }

-- ---- the card of a file, whose slices are zero

module _ (s : Settings) (palette : List Float) (xs ys : List ℤ) (raw : List Float) (cxs cys : List ℕ) (craw : List Float) (m : IlluminationModel) (n : ChannelStats) (t u : Text)
    (luma colours chroma scratch : List Float) (bits symbols : List ℕ) where
  pub of_file : u ≡ written (text_of (setting (layout_of s) xs ys cxs cys palette s.mask m n) (card raw craw luma colours chroma scratch bits symbols)) t →
      luma ≡ zeros (length xs) → colours ≡ zeros (3 * length xs) → chroma ≡ zeros (places_of s (length xs) (length cxs)) → scratch ≡ zeros (squares s.side) →
      bits ≡ no_bits_read (length xs) → symbols ≡ no_bits_read (places_of s (length xs) (length cxs)) → u ≡ written (score_text (sheet s palette xs ys raw cxs cys craw) m n) t
  unfolding score_text
  of_file h a b d e f g = rw (a, b, d, e, f, g) at h
