-- The text of a card has room in LISTING_ROOM bytes: a refusal is a number below 100, what is read is 0, 1 or 2, a card file has at most 1,020 modules and cells, and an
-- accepted hue count at most 4 bits a symbol. Assumes nothing.
use mathlib.Core.Path.{◌≡◌, refl}
use mathlib.Core.Bool.{Bool, true, false, cond}
use mathlib.Core.List.{List, [], ◌∷◌}
use Prim.Native.Nat.{ℕ, zero, suc, ◌+◌, ◌-◌, ◌^◌, ◌≤◌, ◌<◌}
use native.Mathlib.Omega.{arith}
use native.Mathlib.Nat.{mul-le-mul}
use borrow.Author.Tests.{ltb-true, ltb-false, eqb-true, eqb-false}
use lib.Dec.{ltb, eqb}
use lib.IntN.{ℤ, pos}
use lib.Signed.{mag}
use lib.ListN.{length, get_or, set, length-replicate}
use lib.Seq.{get_or-set_same, get_or-set_other, set_out}
use lib.Ieee.{Float, nan, binary32, of_bits}
use Rattle.loops.proofs.Laws.{for_up_to}
use Rattle.sentences.specs.Sentences.{Sentence, refusal, decided}
use Rattle.limits.specs.Chroma.{symbol_bits, chroma_length}
use Rattle.limits.proofs.Laws.{symbol_bits_few}
use Rattle.layout.specs.Groups.{shape, placement, module_placement}
use Rattle.listing.specs.Listing.{refused_line}
use Rattle.listing.proofs.Room.{listing-length, refused-length}
use Rattle.answers.specs.Answers.{Ended, written_or}
use Rattle.lists.specs.Lists.{replace_at}
use Rattle.modulate.specs.Score.{unmask_sentences, unmask_luma_of}
use Rattle.reading.specs.Read.{reads, read_score_at, read_list, read_sentences, read_list_of}
use Rattle.reading.proofs.Erasure.{reads-most}
use Rattle.illum.specs.declared.IlluminationModel.{IlluminationModel}
use Rattle.stats.specs.declared.ChannelStats.{ChannelStats}
use Rattle.demod.specs.Call as scoring
use Rattle.refine.specs.Calls as refining
use Rattle.guarantee.specs.Card.{Setting, Card, to_score, scored_card, to_refine, refined_card, unmasked_card, luma_read, chroma_read}
use Rattle.bits.specs.Reading.{Lent, Left, stopped, read_of}
use Rattle.bits.proofs.Joined.{all_accepted}
use Rattle.bits.proofs.Never.{facts, chroma-long}
use Rattle.readout.specs.Sheet.{Sheet, Few}
use Rattle.readout.specs.Reading.{no_bits_read, places_of, setting_of, card_of, listing_of, text_of, score_text}
use Rattle.readout.proofs.Places.{entries_below}

-- ---- refusals are small numbers

-- every number in a list of sentences is below 100
unfoldable pub tiny : List Sentence → Bool
tiny [] = true
tiny (s ∷ ss) = cond (ltb s.number 100) (tiny ss) false

one_of : (b : Bool) (n m : ℕ) → n < 100 → m < 100 → cond b n m < 100
one_of true n m h g = h
one_of false n m h g = g

first_small : (s : Sentence) (m : ℕ) (t b : Bool) → ltb s.number 100 ≡ b → cond b t false ≡ true → (t ≡ true → m < 100) → cond s.holds s.number m < 100
first_small s m t true e g h = one_of s.holds s.number m (omega (arith, ltb-true s.number 100 e)) (h g)
first_small s m t false e g h = let z : ◌≡◌ {A = ℕ} 0 1 = cc in absurd (omega arith)

pub refusal-small : (ss : List Sentence) → tiny ss ≡ true → refusal ss < 100
unfolding refusal tiny
refusal-small [] h = omega arith
refusal-small (s ∷ ss) h = first_small s (refusal ss) (tiny ss) (ltb s.number 100) refl h (λ g. refusal-small ss g)

-- what a call gives by its number has that number
pub number_small : {A : Type 0} (number : A → ℕ) (r : ℕ → A) (d : A) (k : ℕ) → ((n : ℕ) → number (r n) ≡ n) → number d ≡ 0 → k < 100 → number (decided k r d) < 100
unfolding decided
number_small number r d zero a b h = omega arith
number_small number r d (suc k) a b h = omega (arith, a (suc k))

ended-small : {A : Type 0} (ss : List Sentence) (before after : List A) → tiny ss ≡ true → (written_or ss before after).number < 100
ended-small {A} ss before after h =
    number_small {A = Ended A} (λ e. e.number) (λ n. record { number = n; list = before }) (record { number = 0; list = after }) (refusal ss) (λ n. refl) refl (refusal-small ss h)

read_small : (scores : List Float) (bits : List ℕ) → (read_list_of scores bits).number < 100
unfolding read_list_of read_sentences tiny
read_small scores bits = ended-small (read_sentences scores bits) bits (read_list scores bits) refl

unmask-small : (luma : List Float) (side : ℕ) (xs ys : List ℤ) (g mask : ℕ) → (unmask_luma_of luma side xs ys g mask).number < 100
unfolding unmask_luma_of unmask_sentences module_placement tiny
unmask-small luma side xs ys g mask = ended-small (unmask_sentences luma side xs ys g) luma _ refl

refine-small : (q : refining.Request) → (refining.refine_of q).number < 100
unfolding refining.refine_of refining.sentences_of module_placement tiny
refine-small q = number_small (λ e. e.number) (refining.turned_away q) _ (refusal (refining.sentences_of q)) (λ n. refl) refl (refusal-small (refining.sentences_of q) refl)

score_small : (q : scoring.Request) → (scoring.scored_of q).number < 100
unfolding scoring.scored_of scoring.sentences_of shape placement tiny
score_small q = number_small (λ e. e.number) (scoring.turned_away q) (scoring.done q) (refusal (scoring.sentences_of q)) (λ n. refl) refl (refusal-small (scoring.sentences_of q) refl)

either-small : (k : ℕ) (m : Lent) (next : Left) → k < 100 → next.number < 100 → (decided k (stopped m) next).number < 100
unfolding decided
either-small zero m next h g = g
either-small (suc k) m next h g = h

read_bits_small : (s : Setting) (c : Card) → (read_of s c).number < 100
unfolding read_of
read_bits_small s c =
    either-small _ _ _ (score_small (to_score s c))
    (either-small _ _ _ (refine-small (to_refine s c))
    (either-small _ _ _ (unmask-small (refined_card s c).luma s.layout.side s.xs s.ys s.layout.grid s.mask)
    (either-small _ _ _ (read_small (unmasked_card s c).list c.luma_bits) (either-small _ _ _ (read_small (scored_card s c).chroma c.chroma_bits) (omega arith)))))

-- ---- a text that follows a call

pub line_in : (n : ℕ) → n < 10 ^ 20 → length (refused_line n) ≤ 101047
line_in n h = omega (arith, refused-length n h)

after_in : (k : ℕ) (next : List ℕ) → k < 100 → (k ≡ 0 → length next ≤ 101047) → length (decided k refused_line next) ≤ 101047
unfolding decided
after_in zero next h g = g refl
after_in (suc k) next h g = line_in (suc k) (omega arith)

-- ---- what is read is 0, 1 or 2, and where nothing was read stands 0

abbrev Bits : List ℕ → Type 0
Bits l = (i : ℕ) → get_or l i 0 ≤ 2

set-bit : (l : List ℕ) (j x : ℕ) → x ≤ 2 → Bits l → Bits (set l j x)
set-bit l j x h p i = by (eqb i j) refl (ltb j (length l)) refl
  where
    by : (b : Bool) → eqb i j ≡ b → (c : Bool) → ltb j (length l) ≡ c → get_or (set l j x) i 0 ≤ 2
    by true e true f = rw (eqb-true i j e, get_or-set_same l j x 0 (ltb-true j (length l) f)) h
    by true e false f = rw (set_out l j x (ltb-false j (length l) f)) (p i)
    by false e c f = rw (get_or-set_other l j i x 0 (eqb-false i j e)) (p i)

no_bit : (n : ℕ) → Bits (no_bits_read n)
no_bit zero i = omega arith
no_bit (suc n) zero = omega arith
no_bit (suc n) (suc i) = no_bit n i

list_bits : (scores : List Float) (bits : List ℕ) → Bits bits → Bits (read_list scores bits)
list_bits scores bits p =
    for_up_to (λ n l. Bits l) (replace_at 0 (read_score_at scores)) (length scores) 0 bits (omega arith) p
    (λ j a b l q. set-bit l j (reads (get_or scores j nan)) (reads-most (get_or scores j nan)) q)

ended_bits : (k : ℕ) (before after : List ℕ) → Bits before → Bits after → Bits (decided {A = Ended ℕ} k (λ n. record { number = n; list = before }) (record { number = 0; list = after })).list
unfolding decided
ended_bits zero before after p q = q
ended_bits (suc k) before after p q = p

read_bits : (scores : List Float) (n : ℕ) → Bits (read_list_of scores (no_bits_read n)).list
unfolding read_list_of
read_bits scores n = ended_bits (refusal (read_sentences scores (no_bits_read n))) (no_bits_read n) (read_list scores (no_bits_read n)) (no_bit n) (list_bits scores (no_bits_read n) (no_bit n))

-- ---- the text

-- the figures of the fit line, and the positions, are what the listing has room for
pub record Figures (m : IlluminationModel) : Type 0 where
  pub terms : m.terms < 10 ^ 20
  pub kept : m.kept < 10 ^ 20
  pub rejected : m.rejected < 10 ^ 20

abbrev pub Small : List ℤ → Type 0
Small xs = (i : ℕ) → i < length xs → mag (get_or xs i (pos 0)) < 32768

paired : (xs ys : List ℤ) → length ys ≡ length xs → Small ys → (i : ℕ) → i < length xs → mag (get_or ys i (pos 0)) < 32768
paired xs ys e p i h = p i (omega arith)

few-places : (k c r size : ℕ) → symbol_bits k ≤ 4 → c + r ≤ 1020 → chroma_length k c r size ≤ 4080
unfolding chroma_length
few-places k c r size h g = mul-le-mul h (entries_below c r size g)

-- every card of a card file
module _ (c : Sheet) (m : IlluminationModel) (n : ChannelStats) (f : Figures m) (few : Few c.settings (length c.xs) (length c.cxs)) (pairs : length c.ys ≡ length c.xs) (px : Small c.xs) (py : Small c.ys) where
  abbrev s : Setting
  s = setting_of c m n

  abbrev k : Card
  k = card_of c

  abbrev places : ℕ
  places = places_of c.settings (length c.xs) (length c.cxs)

  -- the chroma list of an accepted call has its length, and at most 4 bits a place
  short : (scored_card s k).number ≡ 0 → length (scored_card s k).chroma ≤ 4080
  short z =
      omega (
        arith,
        chroma-long s k z,
        length-replicate places (of_bits binary32 0),
        few-places c.settings.hues (length c.cxs) (length c.xs - c.settings.grid) c.settings.size (symbol_bits_few c.settings.hues (facts s k z).fit.shaped.hues-good) (omega arith),
      )

  listing_in : (scored_card s k).number ≡ 0 → length (listing_of s k) ≤ 101047
  listing_in z =
      let chroma = (scored_card s k).chroma in
      listing-length m.terms m.kept m.rejected (length c.xs) c.xs c.ys (refined_card s k).luma (luma_read s k).list (length chroma) chroma (chroma_read s k).list
      (record {
        terms_in = f.terms;
        kept_in = f.kept;
        rejected_in = f.rejected;
        modules_in = omega arith;
        places_in = short z;
        xs_in = px;
        ys_in = paired c.xs c.ys pairs py;
        bits_in = λ i h. omega (arith, read_bits (unmasked_card s k).list (length c.xs) i);
        symbols_in = λ i h. omega (arith, read_bits chroma places i);
      })

  pub score_in : length (score_text c m n) ≤ 101047
  unfolding score_text text_of
  score_in = after_in (read_of s k).number (listing_of s k) (read_bits_small s k) (λ e. listing_in (all_accepted s k e).scoring)
