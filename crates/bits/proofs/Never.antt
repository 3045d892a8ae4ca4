-- After an accepted scoring nothing is refused but by lengths: refinement takes the same places, palette and record, corrected colours that passed sentence 12 and scores within ±20; unmasking and
-- reading take less still. So where scratch and the lists of bits are long enough, the card is read. Assumes nothing.
use mathlib.Core.Path.{◌≡◌, refl, ap, ◌∙◌}
use mathlib.Core.Bool.{Bool, true, false, not, ◌&&◌, ◌||◌}
use mathlib.Core.List.{List}
use Prim.Native.Nat.{ℕ, zero, suc, ◌+◌, ◌*◌, ◌/◌, ◌%◌, ◌≤◌, ◌<◌}
use native.Mathlib.Omega.{arith}
use native.Mathlib.Nat.{add-zero}
use borrow.Author.Tests.{le-ltb, eq-eqb}
use lib.Dec.{T}
use lib.IntN.{ℤ}
use lib.ListN.{length, get_or}
use lib.Ieee.{Float, nan, binary32, neg, le, round}
use Rattle.loops.proofs.Laws.{any_up-none}
use Rattle.sentences.specs.Sentences.{refusal, or_else, decided}
use Rattle.sentences.proofs.Laws.{joined, neither}
use Rattle.floatlaws.specs.Order.{le_trans, of_le, to_le}
use Rattle.floatlaws.specs.Finite.{num, neg-fin}
use Rattle.floatlaws.specs.Interval.{In}
use Rattle.limits.specs.Limits.{bad_side, bad_hues}
use Rattle.limits.specs.Chroma.{chroma_on}
use Rattle.layout.specs.Groups.{module_placement}
use Rattle.layout.proofs.Laws.{modules-sound}
use Rattle.color.specs.Color.{whole, fraction}
use Rattle.color.specs.Palette.{linear_at, wild, wild_linear, wild_at, wild_in}
use Rattle.color.proofs.Rises.{fin_of_fraction}
use Rattle.std.specs.Prelude.{Ok}
use Rattle.answers.specs.Answers.{gives, ended}
use Rattle.modulate.specs.Score.{bad_luma_lengths, unmask_at, unmasked, unmask_sentences, unmask_luma_of}
use Rattle.reading.specs.Read.{read_list, read_sentences, read_list_of}
use Rattle.lists.proofs.Laws.{reached}
use Rattle.stats.specs.Calls.{short_palette, bad_numbers, bad_sigmas}
use Rattle.stats.proofs.Range.{Held}
use Rattle.demod.specs.Call.{report_of}
use Rattle.demod.proofs.Outcome.{IsDone, at_done}
use Rattle.demod.proofs.Range.{luma_in, colour-tame}
use Rattle.refine.specs.Refine.{squares, levels_of, grid_of, refined}
use Rattle.refine.specs.Calls as refining
use Rattle.refine.proofs.Each as each
use Rattle.guarantee.specs.Card.{Setting, Card, to_score, scored_card, to_refine, refined_card, unmasked_card, Accepted}
use Rattle.demod.proofs.Accepted.{done-answer}

-- ---- tests

no_or : (a b : Bool) → a ≡ false → b ≡ false → a || b ≡ false
no_or a b p q = rw (p, q)

-- ---- the calls, where no sentence holds

read_done : (scores : List Float) (bits : List ℕ) → length scores ≤ length bits → read_list_of scores bits ≡ ended (Ok tt) (read_list scores bits)
unfolding read_list_of read_sentences refusal decided
read_done scores bits h = rw (le-ltb (length bits) (length scores) h)

unmask-done : (luma : List Float) (side : ℕ) (xs ys : List ℤ) (g mask : ℕ) → bad_side side ≡ false → length xs ≡ length ys → length xs ≤ length luma →
    refusal (module_placement side g xs ys) ≡ 0 → unmask_luma_of luma side xs ys g mask ≡ ended (Ok tt) (unmasked mask xs ys g luma)
unfolding unmask_luma_of unmask_sentences bad_luma_lengths refusal decided
unmask-done luma side xs ys g mask a b c d = rw (a, eq-eqb (length xs) (length ys) b, le-ltb (length luma) (length xs) c, d)

refine-done : (q : refining.Request) → bad_side q.side ≡ false → bad_hues q.hues ≡ false →
    refining.short_slices q.side q.hues (length q.xs) (length q.ys) (length q.colours) (length q.luma) q.palette (length q.scratch) ≡ false →
    refusal (module_placement q.side q.grid q.xs q.ys) ≡ 0 →
    refining.wild_numbers (length q.xs) q.colours q.luma q.palette q.hues q.noise ≡ false → bad_sigmas q.noise ≡ false →
    refining.refine_of q ≡ refining.final_of (refining.refined_of q)
unfolding refining.refine_of refining.sentences_of refusal or_else decided
refine-done q a b c d e f = rw (a, b, c, joined (module_placement q.side q.grid q.xs q.ys) _ (modules-sound q.side q.grid q.xs q.ys), d, e, f)

-- ---- numbers that pass sentence 8

-- a component of a colour that passed
component : (colours : List Float) (i r : ℕ) → r < 3 → wild_linear (linear_at colours i) ≡ false → wild_at colours (3 * i + r) ≡ false
unfolding wild_linear linear_at
component colours i zero h e = rw (add-zero (3 * i)) (neither (wild (get_or colours (3 * i) nan)) _ e).0
component colours i (suc zero) h e = (neither (wild (get_or colours (3 * i + 1) nan)) _ (neither (wild (get_or colours (3 * i) nan)) _ e).1).0
component colours i (suc (suc zero)) h e = (neither (wild (get_or colours (3 * i + 1) nan)) _ (neither (wild (get_or colours (3 * i) nan)) _ e).1).1
component colours i (suc (suc (suc r))) h e = absurd (omega arith)

colours-tame : (colours : List Float) (m : ℕ) → ((i : ℕ) → i < m → wild_linear (linear_at colours i) ≡ false) → wild_in colours (3 * m) ≡ false
colours-tame colours m h = any_up-none (wild_at colours) (3 * m) (λ j l. at j l)
  where
    split : (j : ℕ) → j ≡ 3 * (j / 3) + j % 3
    split j = omega arith

    at : (j : ℕ) → j < 3 * m → wild_at colours j ≡ false
    at j l = rw (split j) (component colours (j / 3) (j % 3) (omega arith) (h (j / 3) (omega arith)))

passed : (a b : Bool) → T a → T b → not (a && b) ≡ false
passed true true s t = refl
passed true false s t = absurd t
passed false b s t = absurd s

-- a score within ±20
score_tame : (v : Float) → In binary32 (neg (whole 20)) (whole 20) v → wild v ≡ false
unfolding wild fraction round le neg
score_tame v p =
    let q = fin_of_fraction 1048576 1 tt in
    passed (le v (whole 1048576)) (le (neg (whole 1048576)) v) (to_le (num p.is) (num q) (le_trans p.high (of_le (num p.to) (num q) tt)))
    (to_le (num (neg-fin q)) (num p.is) (le_trans (of_le (num (neg-fin q)) (num p.from) tt) p.low))

-- ---- after an accepted scoring

module _ (s : Setting) (c : Card) (z : (scored_card s c).number ≡ 0) where
  is_done : (scored_card s c).answer ≡ gives (report_of (to_score s c))
  is_done = done-answer (to_score s c) z

  pub facts : IsDone (to_score s c)
  facts = at_done (to_score s c) is_done

  luma-long : length (scored_card s c).luma ≡ length c.luma
  luma-long = ap (λ f. length f.luma) facts.left ∙ facts.wrote.luma-long

  colours-long : length (scored_card s c).colours ≡ length c.colours
  colours-long = ap (λ f. length f.colours) facts.left ∙ facts.wrote.colours-long

  pub chroma-long : length (scored_card s c).chroma ≡ length c.chroma
  chroma-long = by (chroma_on s.layout.hues) refl
    where
      by : (b : Bool) → chroma_on s.layout.hues ≡ b → length (scored_card s c).chroma ≡ length c.chroma
      by true o = ap (λ f. length f.chroma) facts.left ∙ (facts.chroma o).long
      by false o = ap (λ f. length f.chroma) facts.left ∙ ap length (facts.no_chroma o)

  module _ (held : Held s.noise) (scratch : squares s.layout.side ≤ length c.scratch) where
    slices_long : refining.short_slices s.layout.side s.layout.hues (length s.xs) (length s.ys) (length (scored_card s c).colours) (length (scored_card s c).luma) s.palette (length c.scratch) ≡ false
    unfolding refining.short_slices short_palette
    slices_long =
        let l = facts.fit.lengths in
        rw (
          eq-eqb (length s.xs) (length s.ys) l.pairs.modules,
          le-ltb (length (scored_card s c).colours) (3 * length s.xs) (omega (arith, colours-long, l.places)),
          le-ltb (length (scored_card s c).luma) (length s.xs) (omega (arith, luma-long, l.scores)),
          le-ltb (length s.palette) _ l.palette-long,
          le-ltb (length c.scratch) (squares s.layout.side) scratch,
        )

    numbers-tame : refining.wild_numbers (length s.xs) (scored_card s c).colours (scored_card s c).luma s.palette s.layout.hues s.noise ≡ false
    unfolding refining.wild_numbers bad_numbers
    numbers-tame =
        let i = facts.fit.inputs in
        no_or _ _ (colours-tame (scored_card s c).colours (length s.xs) (colour-tame (to_score s c) is_done))
        (no_or _ _ (any_up-none (wild_at (scored_card s c).luma) (length s.xs) (λ j l. score_tame (get_or (scored_card s c).luma j nan) (luma_in (to_score s c) held is_done j l))) (no_or _ _ i.palette-tame i.noise-tame))

    refines : refined_card s c ≡ refining.final_of (refining.refined_of (to_refine s c))
    refines =
        let a = facts.fit in
        refine-done (to_refine s c) a.shaped.side-good a.shaped.hues-good slices_long a.placed.modules-pass numbers-tame a.sigmas

    refined-long : length (refined_card s c).luma ≡ length c.luma
    unfolding refining.refined_of refined
    refined-long =
        ap (λ f. length f.luma) refines ∙
        (each.reached s.noise s.palette s.layout.hues (levels_of s.palette) s.layout.side s.xs s.ys (scored_card s c).colours (grid_of s.layout.side s.xs s.ys (scored_card s c).colours c.scratch) (scored_card s c).luma
        (omega (arith, luma-long, facts.fit.lengths.scores))).long ∙
        luma-long

    unmasks : unmasked_card s c ≡ ended (Ok tt) (unmasked s.mask s.xs s.ys s.layout.grid (refined_card s c).luma)
    unmasks =
        let a = facts.fit in
        unmask-done (refined_card s c).luma s.layout.side s.xs s.ys s.layout.grid s.mask a.shaped.side-good a.lengths.pairs.modules (omega (arith, refined-long, a.lengths.scores)) a.placed.modules-pass

    unmasked-long : length (unmasked_card s c).list ≡ length c.luma
    unmasked-long =
        let a = facts.fit in
        ap (λ f. length f.list) unmasks ∙
        (reached nan (unmask_at s.mask s.xs s.ys) (refined_card s c).luma s.layout.grid (omega (arith, refined-long, a.lengths.scores, a.placed.grid-most))).long ∙
        refined-long

    -- a bit for each luma score and for each chroma score is lent
    pub none-refused : length c.luma ≤ length c.luma_bits → length c.chroma ≤ length c.chroma_bits → Accepted s c
    none-refused bits symbols =
        record {
          scoring = z;
          refinement = ap (λ f. f.number) refines;
          unmasking = ap (λ f. f.number) unmasks;
          luma = ap (λ f. f.number) (read_done (unmasked_card s c).list c.luma_bits (omega (arith, unmasked-long)));
          chroma = ap (λ f. f.number) (read_done (scored_card s c).chroma c.chroma_bits (omega (arith, chroma-long)));
        }
