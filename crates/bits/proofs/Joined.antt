-- An accepted call is accepted by each of the calls that it makes, so what it leaves is what the last of them left, and its bits are the bits read that the guarantee speaks of. Assumes nothing.
use mathlib.Core.Path.{◌≡◌, refl, sym, ap, ◌∙◌}
use mathlib.Core.List.{List}
use Prim.Native.Nat.{ℕ, zero, suc}
use native.Mathlib.Omega.{arith}
use Rattle.sentences.specs.Sentences.{decided}
use Rattle.demod.specs.Call.{report_of}
use Rattle.guarantee.specs.Card.{Setting, Card, to_score, scored_card, refined_card, unmasked_card, luma_read, chroma_read, Accepted, bits_read}
use Rattle.guarantee.proofs.Guarantee.{read_as_drawn}
use Rattle.bits.specs.Reading.{Lent, Left, stopped, done, after_scoring, after_refinement, after_unmasking, after_luma, after_chroma, read_of, drawn_from, bits_left, ReadAs, Joined}

-- where the number is 0, the call's is, and what follows it decides
goes_on : (n : ℕ) (m : Lent) (next : Left) → (decided n (stopped m) next).number ≡ 0 → (n ≡ 0) × (decided n (stopped m) next ≡ next)
unfolding decided
goes_on zero m next e = (refl, refl)
goes_on (suc n) m next e = absurd (omega arith)

module _ (s : Setting) (c : Card) (e : (read_of s c).number ≡ 0) where
  abbrev from-chroma : Left
  from-chroma = decided (chroma_read s c).number (stopped (after_chroma s c)) (done (report_of (to_score s c)) (after_chroma s c))

  abbrev from-luma : Left
  from-luma = decided (luma_read s c).number (stopped (after_luma s c)) from-chroma

  abbrev from-unmasking : Left
  from-unmasking = decided (unmasked_card s c).number (stopped (after_unmasking s c)) from-luma

  abbrev from-refinement : Left
  from-refinement = decided (refined_card s c).number (stopped (after_refinement s c)) from-unmasking

  scores : ((scored_card s c).number ≡ 0) × (read_of s c ≡ from-refinement)
  unfolding read_of
  scores = goes_on (scored_card s c).number (after_scoring s c) from-refinement e

  refines : ((refined_card s c).number ≡ 0) × (from-refinement ≡ from-unmasking)
  refines = goes_on (refined_card s c).number (after_refinement s c) from-unmasking (ap (λ f. f.number) (sym scores.1) ∙ e)

  unmasks : ((unmasked_card s c).number ≡ 0) × (from-unmasking ≡ from-luma)
  unmasks = goes_on (unmasked_card s c).number (after_unmasking s c) from-luma (ap (λ f. f.number) (sym (scores.1 ∙ refines.1)) ∙ e)

  reads-luma : ((luma_read s c).number ≡ 0) × (from-luma ≡ from-chroma)
  reads-luma = goes_on (luma_read s c).number (after_luma s c) from-chroma (ap (λ f. f.number) (sym (scores.1 ∙ refines.1 ∙ unmasks.1)) ∙ e)

  reads-chroma : ((chroma_read s c).number ≡ 0) × (from-chroma ≡ done (report_of (to_score s c)) (after_chroma s c))
  reads-chroma = goes_on (chroma_read s c).number (after_chroma s c) (done (report_of (to_score s c)) (after_chroma s c)) (ap (λ f. f.number) (sym (scores.1 ∙ refines.1 ∙ unmasks.1 ∙ reads-luma.1)) ∙ e)

  -- none of the calls is refused
  pub all_accepted : Accepted s c
  all_accepted = record { scoring = scores.0; refinement = refines.0; unmasking = unmasks.0; luma = reads-luma.0; chroma = reads-chroma.0 }

  -- so the memory is as the last one left it
  pub all_done : read_of s c ≡ done (report_of (to_score s c)) (after_chroma s c)
  all_done = scores.1 ∙ refines.1 ∙ unmasks.1 ∙ reads-luma.1 ∙ reads-chroma.1

-- and where none of the calls is refused, the call is not
pub accepts_all : (s : Setting) (c : Card) → Accepted s c → (read_of s c).number ≡ 0
unfolding read_of decided
accepts_all s c a = rw (a.scoring, a.refinement, a.unmasking, a.luma, a.chroma)

-- ---- the bits left

module _ (s : Setting) (c : Card) (f : Left) (e : f ≡ read_of s c) where
  module _ (z : f.number ≡ 0) where
    nought : (read_of s c).number ≡ 0
    nought = ap (λ (g : Left). g.number) (sym e) ∙ z

    reads : bits_left s f ≡ bits_read s c
    unfolding bits_read
    reads = ap (bits_left s) (e ∙ all_done s c nought)

    read_as : (drawn levels hues : List ℕ) → ReadAs s (drawn_from drawn levels hues c) f
    unfolding bits_read
    read_as drawn levels hues =
        let d = drawn_from drawn levels hues c in
        let a = all_accepted s c nought in
        let a : Accepted s d = record { scoring = a.scoring; refinement = a.refinement; unmasking = a.unmasking; luma = a.luma; chroma = a.chroma } in
        record { accepted = a; read = reads; drawn = λ S M D N. reads ∙ (read_as_drawn s d S M (record { drawn = D; accepted = a; near = N })).same }

  pub joined : Joined s c f
  joined = record { accepted = read_as }
