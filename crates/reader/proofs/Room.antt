-- The text of every card file has room in LISTING_ROOM bytes, so that there the slice holds the whole text: positions are 16 bits wide, the figures of the fit have their
-- types, and the rest is said of any card that the file can hold. Assumes nothing.
use mathlib.Core.Path.{◌≡◌, refl, sym, ap, ◌∙◌}
use mathlib.Core.List.{List, ◌++◌}
use mathlib.Core.Option.{Option, none, some}
use Prim.Native.Nat.{ℕ, zero, suc, ◌+◌, ◌^◌, ◌≤◌, ◌<◌}
use native.Mathlib.Omega.{arith}
use native.Mathlib.Nat.{zero-add}
use lib.IntN.{pos}
use lib.Ieee.{Float}
use lib.ListN.{length, take, drop}
use lib.Seq.{take-append_seam, drop-append_seam}
use Rattle.sentences.specs.Sentences.{refusal, decided}
use Rattle.answers.specs.Answers.{Said, refused_by, gives, said, number_of}
use Rattle.card.specs.declared.Card.{Card}
use Rattle.std.specs.Prelude.{Result, Ok, Err}
use Rattle.answers.specs.declared.refusal.Refusal.{Refusal}
use Rattle.card.specs.File.{card_of, file_sentences, opened}
use Rattle.card.specs.Sections.{position_of}
use Rattle.card.proofs.Signed.{position-small}
use Rattle.listing.specs.Text.{Text, text, written}
use Rattle.listing.specs.Listing.{refused_line}
use Rattle.listing.proofs.Room.{in_full}
use Rattle.illum.specs.declared.IlluminationModel.{IlluminationModel}
use Rattle.illum.specs.Refusals.{Modelled}
use Rattle.stats.specs.declared.ChannelStats.{ChannelStats}
use Rattle.measure.specs.declared.Measurement.{Measurement}
use Rattle.references.specs.References.{reference_placement}
use Rattle.measure.specs.Measure as measuring
use Rattle.readout.specs.Sheet.{Sheet, Few}
use Rattle.readout.specs.Reading.{score_text}
use Rattle.readout.proofs.Room.{tiny, refusal-small, number_small, line_in, Figures, Small, score_in}
use Rattle.reader.specs.File.{positions_of, sheet_of, references_of, Fits}
use Rattle.reader.specs.Fitting.{to_measure, after_measuring, measure_text, Typed, fitted, after_fitting, fit_text}
use Rattle.reader.specs.Text.{after_opening, card_text, listing_room}
use Rattle.reader.proofs.Lists.{list_length, list_at}
use Rattle.reader.proofs.Held.{few}

-- ---- measuring and fitting

measure_small : (q : measuring.Request) → (measuring.measure_of q).said.number < 100
unfolding measuring.measure_of measuring.sentences_for reference_placement tiny
measure_small q =
    number_small (λ e. e.said.number) (measuring.turned_away q) (measuring.done q) (refusal (measuring.sentences_of q)) (λ n. refl) refl (refusal-small (measuring.sentences_of q) refl)

after_in : (c : Sheet) (m : IlluminationModel) (n : ℕ) (v : Option Measurement) → n < 100 → ((r : ChannelStats) → length (score_text c m r) ≤ listing_room) → length (after_measuring c m n v) ≤ listing_room
unfolding after_measuring
after_in c m n none h g = line_in n (omega arith)
after_in c m n (some r) h g = g r.noise

decided_in : (k : ℕ) (next : List ℕ) → k < 10 ^ 20 → length next ≤ listing_room → length (decided k refused_line next) ≤ listing_room
unfolding decided
decided_in zero next h g = g
decided_in (suc k) next h g = line_in (suc k) h

figures : (r : Modelled) → Typed r → Figures r.model
figures r t = record { terms = omega (arith, t.terms); kept = omega (arith, t.kept); rejected = omega (arith, t.rejected) }

fit_in : (c : Sheet) (references : List Float) → Typed (fitted c references) → Few c.settings (length c.xs) (length c.cxs) → length c.ys ≡ length c.xs → Small c.xs → Small c.ys →
    length (fit_text c references) ≤ listing_room
unfolding fit_text after_fitting measure_text
fit_in c references t few e px py =
    let m = (fitted c references).model in
    decided_in (fitted c references).number (measure_text c references m) (omega (arith, t.number))
    (after_in c m _ (measuring.measure_of (to_measure c references m)).said.value (measure_small (to_measure c references m))
    (λ n. score_in c m n (figures (fitted c references) t) few e px py))

-- ---- the file

small : (s : List ℕ) (at n : ℕ) → Small (positions_of s at n)
small s at n i h = rw (list_at (pos 0) (position_of s at) n i (omega (arith, list_length (position_of s at) n))) (position-small s at i)

pub card-in : (s : List ℕ) (c : Card) → Fits c → Typed (fitted (sheet_of s c) (references_of s c)) → length (fit_text (sheet_of s c) (references_of s c)) ≤ listing_room
unfolding sheet_of
card-in s c h t =
    let m = c.modules.count in
    let x = list_length (position_of s c.modules.at) m in
    let y = list_length (position_of s (c.modules.at + 2)) m in
    fit_in (sheet_of s c) (references_of s c) t (few s c h) (y ∙ sym x) (small s c.modules.at m) (small s (c.modules.at + 2) m)

opened-small : (pairs : ℕ) (s : List ℕ) → (opened pairs s).number < 100
unfolding opened tiny
opened-small pairs s =
    number_small (λ e. e.number) refused_by (gives (card_of pairs s)) (refusal (file_sentences pairs s)) (λ n. refl) refl
    (refusal-small (file_sentences pairs s) refl)

module _ (s : List ℕ) (o : Result Card Refusal) (p : said o ≡ opened 5 s) where
  pub refused_in : (r : Refusal) → o ≡ Err r → length (card_text s) ≤ listing_room
  unfolding card_text after_opening
  refused_in r e =
      let q : refused_by (number_of r) ≡ opened 5 s = ap said (sym e) ∙ p in
      rw (← q) (line_in (number_of r) (omega (arith, opened-small 5 s, ap (λ (a : Said Card). a.number) q)))

  pub opened_in : (c : Card) → o ≡ Ok c → length (fit_text (sheet_of s c) (references_of s c)) ≤ listing_room → length (card_text s) ≤ listing_room
  unfolding card_text after_opening
  opened_in c e h = rw (← p, e) h

-- ---- what a caller of `read_card` may use, from its contract alone: in a slice of LISTING_ROOM bytes the text is whole, and what is behind it stays

pub record Whole (s out after : List ℕ) (r : ℕ) : Type 0 where
  pub length_is : r ≡ length (card_text s)
  pub text_is : take r after ≡ card_text s
  pub kept : drop r after ≡ drop r out

fill : (bs out : List ℕ) → length bs ≤ length out → written bs (text 0 out) ≡ text (length bs) (bs ++ drop (length bs) out)
fill bs out h = in_full bs 0 out (omega arith) ∙ ap (λ (n : ℕ). text n (bs ++ drop n out)) (zero-add (length bs))

pub whole : (s out after : List ℕ) (r : ℕ) → text r after ≡ written (card_text s) (text 0 out) → length (card_text s) ≤ listing_room → listing_room ≤ length out → Whole s out after r
whole s out after r e h g =
    let q = e ∙ fill (card_text s) out (omega arith) in
    let n : r ≡ length (card_text s) = ap (λ (t : Text). t.at) q in
    let l : after ≡ card_text s ++ drop (length (card_text s)) out = ap (λ (t : Text). t.out) q in
    record {
      length_is = n;
      text_is = rw (n, l) (take-append_seam (card_text s) (drop (length (card_text s)) out));
      kept = rw (n, l) (drop-append_seam (card_text s) (drop (length (card_text s)) out));
    }
