-- What `score` knows past its sentences: none of them holds, so the slices are long enough, the positions are f32 values, and colours, palette and record are in their ranges. Assumes nothing.
use mathlib.Core.Path.{◌≡◌, refl, sym, ap, ◌∙◌}
use mathlib.Core.Bool.{true, false, not, cond}
use mathlib.Core.List.{List, [], ◌∷◌}
use mathlib.Core.Option.{some-injective}
use Prim.Native.Nat.{ℕ, zero, suc, ◌*◌, ◌≤◌, ◌<◌}
use native.Mathlib.Omega.{arith}
use borrow.Author.Tests.{ltb-false, not-false, eqb-true}
use lib.Dec.{ltb, eqb}
use lib.IntN.{ℤ}
use lib.ListN.{length}
use lib.Ieee.{Float}
use Rattle.loops.proofs.Laws.{any_up-false}
use Rattle.sentences.specs.Sentences.{refusal, decided, at, before, fresh, sound}
use Rattle.sentences.proofs.Laws.{none-holds, that_holds, earlier_fail, split, neither, refuses, accepts}
use Rattle.limits.specs.Chroma.{chroma_on, ring_modules, chroma_length}
use Rattle.layout.specs.declared.Layout.{Layout}
use Rattle.layout.specs.Groups.{shape, placement, Shaped, Paired, Placed}
use Rattle.layout.proofs.Laws.{shape-sound, placement-sound, shaped, placed}
use Rattle.color.specs.declared.Linear.{Linear}
use Rattle.color.specs.Palette.{palette_len, wild_in, wild_palette, wild_linear}
use Rattle.illum.specs.Refusals.{bad_model}
use Rattle.stats.specs.declared.ChannelStats.{ChannelStats}
use Rattle.stats.specs.Calls.{short_palette, bad_noise_numbers, bad_numbers, bad_sigmas}
use Rattle.stats.proofs.Passed.{palette-long}
use Rattle.demod.specs.Ready.{Seen}
use Rattle.demod.specs.declared.ScoreReport.{ScoreReport}
use Rattle.answers.specs.Answers.{gives}
use Rattle.demod.specs.Call.{bad_module_lengths, bad_cell_lengths, short_chroma, bad_lengths, bad_inputs, bad_corrected, Request, module_colours, cell_colours, sentences_of, report_of, turned_away, done, scored_of}
use Rattle.observed.specs.Colours.{wild_colour_at, wild_colours}

equal : (a b : ℕ) → not (eqb a b) ≡ false → a ≡ b
equal a b h = eqb-true a b (not-false (eqb a b) h)

-- 5, slice by slice
pub record Lengths (l : Layout) (xs ys : List ℤ) (raw : List Float) (cxs cys : List ℕ) (craw palette luma colours chroma : List Float) : Type 0 where
  pub pairs : Paired xs ys cxs cys
  pub raw-three : 3 * length xs ≤ length raw
  pub scores : length xs ≤ length luma
  pub places : 3 * length xs ≤ length colours
  pub craw-three : 3 * length cxs ≤ length craw
  pub palette-long : palette_len l.hues ≤ length palette
  pub chroma-long : chroma_length l.hues (length cxs) (ring_modules (length xs) l.grid) l.size ≤ length chroma

pub lengths_in : (l : Layout) (xs ys : List ℤ) (raw : List Float) (cxs cys : List ℕ) (craw palette luma colours chroma : List Float) →
    bad_lengths l xs ys raw cxs cys craw palette luma colours chroma ≡ false → Lengths l xs ys raw cxs cys craw palette luma colours chroma
unfolding bad_lengths bad_module_lengths bad_cell_lengths short_chroma
lengths_in l xs ys raw cxs cys craw palette luma colours chroma h =
    let m = length xs in
    let a = neither (bad_module_lengths m (length ys) (length raw) (length luma) (length colours)) _ h in
    let b = neither (bad_cell_lengths (length cxs) (length cys) (length craw)) _ a.1 in
    let c = neither (short_palette palette l.hues) (short_chroma l (length chroma) m (length cxs)) b.1 in
    let p = neither (not (eqb m (length ys))) _ a.0 in
    let q = neither (ltb (length raw) (3 * m)) _ p.1 in
    let r = neither (ltb (length luma) m) (ltb (length colours) (3 * m)) q.1 in
    let s = neither (not (eqb (length cxs) (length cys))) (ltb (length craw) (3 * length cxs)) b.0 in
    record {
      pairs = record { modules = equal m (length ys) p.0; cells = equal (length cxs) (length cys) s.0 };
      raw-three = ltb-false (length raw) (3 * m) q.0;
      scores = ltb-false (length luma) m r.0;
      places = ltb-false (length colours) (3 * m) r.1;
      craw-three = ltb-false (length craw) (3 * length cxs) s.1;
      palette-long = palette-long palette l.hues c.0;
      chroma-long = ltb-false (length chroma) (chroma_length l.hues (length cxs) (ring_modules m l.grid) l.size) c.1;
    }

-- past 7
pub seen-in : (l : Layout) (xs ys : List ℤ) (raw : List Float) (cxs cys : List ℕ) (craw palette luma colours chroma : List Float) →
    Shaped l → Lengths l xs ys raw cxs cys craw palette luma colours chroma → Placed l xs ys cxs cys → Seen l xs ys raw cxs cys craw
seen-in l xs ys raw cxs cys craw palette luma colours chroma s g p =
    record {
      shaped = s;
      placed = record { side-most = s.side-most; pairs = g.pairs.modules; places-good = p.places-good };
      grid-most = p.grid-most;
      most = p.modules-most;
      raw-three = g.raw-three;
      cells-pair = g.pairs.cells;
      cells-most = p.cells-most;
      craw-three = g.craw-three;
    }

-- 8
pub record Inputs (raw : List Float) (m : ℕ) (craw : List Float) (c : ℕ) (n : ChannelStats) (palette : List Float) (hues : ℕ) : Type 0 where
  pub raw-tame : wild_in raw (3 * m) ≡ false
  pub craw-tame : wild_in craw (3 * c) ≡ false
  pub palette-tame : wild_palette palette hues ≡ false
  pub noise-tame : bad_noise_numbers n ≡ false

inputs_in : (raw : List Float) (m : ℕ) (craw : List Float) (c : ℕ) (n : ChannelStats) (palette : List Float) (hues : ℕ) → bad_inputs raw m craw c n palette hues ≡ false → Inputs raw m craw c n palette hues
unfolding bad_inputs bad_numbers
inputs_in raw m craw c n palette hues h =
    let a = neither (wild_in raw (3 * m)) _ h in
    let b = neither (wild_in craw (3 * c)) (bad_numbers n palette hues) a.1 in
    let d = neither (wild_palette palette hues) (bad_noise_numbers n) b.1 in
    record { raw-tame = a.0; craw-tame = b.0; palette-tame = d.0; noise-tame = d.1 }

-- 12
module _ (hues : ℕ) (modules : ℕ → Linear) (m : ℕ) (cells : ℕ → Linear) (c : ℕ) (h : bad_corrected hues modules m cells c ≡ false) where
  both : (wild_colours modules m ≡ false) × (cond (chroma_on hues) (wild_colours cells c) false ≡ false)
  unfolding bad_corrected
  both = neither (wild_colours modules m) (cond (chroma_on hues) (wild_colours cells c) false) h

  modules-tame : (i : ℕ) → i < m → wild_linear (modules i) ≡ false
  modules-tame = any_up-false (wild_colour_at modules) m both.0

  cells-tame : chroma_on hues ≡ true → (i : ℕ) → i < c → wild_linear (cells i) ≡ false
  cells-tame o = any_up-false (wild_colour_at cells) c (rw o at both.1)

-- where a call is accepted no sentence holds
pub record Accepted (q : Request) : Type 0 where
  pub shaped : Shaped q.layout
  pub lengths : Lengths q.layout q.xs q.ys q.raw q.cxs q.cys q.craw q.palette q.luma q.colours q.chroma
  pub placed : Placed q.layout q.xs q.ys q.cxs q.cys
  pub seen : Seen q.layout q.xs q.ys q.raw q.cxs q.cys q.craw
  pub inputs : Inputs q.raw (length q.xs) q.craw (length q.cxs) q.noise q.palette q.layout.hues
  pub sigmas : bad_sigmas q.noise ≡ false
  pub model : bad_model q.model ≡ false
  pub modules-tame : (i : ℕ) → i < length q.xs → wild_linear (module_colours q i) ≡ false
  pub cells-tame : chroma_on q.layout.hues ≡ true → (i : ℕ) → i < length q.cxs → wild_linear (cell_colours q i) ≡ false

module _ (q : Request) where
  sound-list : sound (sentences_of q) ≡ true
  unfolding sentences_of shape placement sound fresh
  sound-list = refl

  module _ (n : ℕ) (e : n ≡ refusal (sentences_of q)) where
    -- the sentence of the number that is given holds, and none that is tried before it does
    pub given : (n ≡ 0 → ⊥) → at n (sentences_of q) ≡ true
    given z = that_holds n (sentences_of q) sound-list z e

    pub first : (m : ℕ) → at m (before n (sentences_of q)) ≡ false
    first m = earlier_fail n (sentences_of q) m e

    pub turned-away : (n ≡ 0 → ⊥) → turned_away q n ≡ scored_of q
    unfolding scored_of
    turned-away z = refuses (turned_away q) (done q) n (refusal (sentences_of q)) z e

  module _ (e : 0 ≡ refusal (sentences_of q)) where
    pub taken : done q ≡ scored_of q
    unfolding scored_of
    taken = accepts (turned_away q) (done q) 0 (refusal (sentences_of q)) refl e

    none : (m : ℕ) → at m (sentences_of q) ≡ false
    none m = none-holds (sentences_of q) sound-list m e

    -- the two groups are passed
    is_shaped : Shaped q.layout
    unfolding sentences_of
    is_shaped = shaped q.layout 0 (split (shape q.layout) _ (shape-sound q.layout) e).0 refl

    is_placed : Placed q.layout q.xs q.ys q.cxs q.cys
    unfolding sentences_of sound fresh
    is_placed =
        let past-shape = (split (shape q.layout) _ (shape-sound q.layout) e).1 in
        let past-lengths = (split (_ ∷ []) _ refl past-shape).1 in
        let at-placement = (split (placement q.layout q.xs q.ys q.cxs q.cys) _ (placement-sound q.layout q.xs q.ys q.cxs q.cys) past-lengths).0 in
        placed q.layout q.xs q.ys q.cxs q.cys 0 at-placement refl

    long : Lengths q.layout q.xs q.ys q.raw q.cxs q.cys q.craw q.palette q.luma q.colours q.chroma
    unfolding sentences_of shape at
    long = lengths_in q.layout q.xs q.ys q.raw q.cxs q.cys q.craw q.palette q.luma q.colours q.chroma (none 5)

    pub accepted : Accepted q
    unfolding sentences_of shape placement at
    accepted =
        record {
          shaped = is_shaped;
          lengths = long;
          placed = is_placed;
          seen = seen-in q.layout q.xs q.ys q.raw q.cxs q.cys q.craw q.palette q.luma q.colours q.chroma is_shaped long is_placed;
          inputs = inputs_in q.raw (length q.xs) q.craw (length q.cxs) q.noise q.palette q.layout.hues (none 8);
          sigmas = none 9;
          model = none 10;
          modules-tame = modules-tame q.layout.hues (module_colours q) (length q.xs) (cell_colours q) (length q.cxs) (none 12);
          cells-tame = cells-tame q.layout.hues (module_colours q) (length q.xs) (cell_colours q) (length q.cxs) (none 12);
        }

-- the number is that of the first sentence that holds; where it is 0 the answer is the call's report
module _ (q : Request) where
  number-by : (n : ℕ) → (decided n (turned_away q) (done q)).number ≡ n
  unfolding decided
  number-by zero = refl
  number-by (suc n) = refl

  answer-by : (n : ℕ) → (decided n (turned_away q) (done q)).answer.number ≡ (decided n (turned_away q) (done q)).number
  unfolding decided
  answer-by zero = refl
  answer-by (suc n) = refl

  done-by : (n : ℕ) → n ≡ 0 → (decided n (turned_away q) (done q)).answer ≡ gives (report_of q)
  unfolding decided
  done-by zero z = refl
  done-by (suc n) z = absurd (omega arith)

  pub number : (scored_of q).number ≡ refusal (sentences_of q)
  unfolding scored_of
  number = number-by (refusal (sentences_of q))

  pub answer-number : (scored_of q).answer.number ≡ (scored_of q).number
  unfolding scored_of
  answer-number = answer-by (refusal (sentences_of q))

  pub done-answer : (scored_of q).number ≡ 0 → (scored_of q).answer ≡ gives (report_of q)
  unfolding scored_of
  done-answer z = done-by (refusal (sentences_of q)) (sym (number-by (refusal (sentences_of q))) ∙ z)

  -- what is reported is the call's report
  pub report_is : (r : ScoreReport) → (scored_of q).answer ≡ gives r → r ≡ report_of q
  report_is r e =
      let z : (scored_of q).number ≡ 0 = sym answer-number ∙ ap (λ a. a.number) e in
      some-injective r (report_of q) (ap (λ a. a.value) (sym e ∙ done-answer z))
