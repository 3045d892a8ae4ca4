-- The read guarantee, at 9: each luma bit whose refined score is no NaN and each chroma bit is read as it was drawn, so the bits read are the bits drawn, and two lists that equal two lists are equal exactly
-- when those are. At 13: yes there is yes at 9, and no refined score is a NaN. Assumes nothing.
use mathlib.Core.Path.{◌≡◌, refl, sym, ap, ◌∙◌, subst}
use mathlib.Core.Bool.{Bool, true, false}
use mathlib.Core.List.{List, ◌++◌}
use Prim.Native.Nat.{ℕ, ◌+◌, ◌-◌, ◌≤◌, ◌<◌, zero-le}
use native.Mathlib.Nat.{zero-mul, le_trans, le_of_eq}
use native.Mathlib.Omega.{arith}
use borrow.Author.Tests.{ltb-true, ltb-false}
use lib.Dec.{ltb}
use lib.ListN.{length, get_or, take, length-append, length-map, get_or-append, get_or-map}
use lib.Seq.{length-take-le, get_or-take, get_or-append-add, ext_get_or}
use lib.Ieee.{nan, is_nan}
use Rattle.limits.specs.Chroma.{chroma_on, symbol_bits, chroma_length}
use Rattle.margin.specs.declared.Threshold.TheVariants.{Nine}
use Rattle.modulate.specs.Draw.{is_set, bit_of}
use Rattle.modulate.proofs.Lengths.{bits_long}
use Rattle.guarantee.specs.Card.{Setting, Card, modules, chroma_scores, refined_card, luma_read, chroma_read, bits_drawn, bits_read}
use Rattle.guarantee.specs.Guarantee.{Singles, InMargin, Readable, ReadAsDrawn, Guaranteed, ReadGuarantee, InMarginAt, NoNan, ReadGuaranteeAtNine, EachRead, EachReadAtNine}
use Rattle.guarantee.proofs.Known.{is_drawn, at_nine}
use Rattle.guarantee.proofs.ReadLuma.{luma-bit, luma-bits, no_nan}
use Rattle.guarantee.proofs.ReadChroma.{chroma-bit, chroma-bits}

-- two lists, one after the other
module _ (a b : List ℕ) (m q : ℕ) (A : m ≤ length a) (B : q ≤ length b) where
  front : length (take m a) ≡ m
  front = length-take-le m a A

  joined_length : length (take m a ++ take q b) ≡ m + q
  joined_length = simp (length-append, front, length-take-le q b B)

  joined-front : (i : ℕ) → i < m → get_or (take m a ++ take q b) i 0 ≡ get_or a i 0
  joined-front i h = get_or-append (take m a) (take q b) 0 i (omega (arith, front)) ∙ get_or-take m a i 0 h

  joined_back : (j : ℕ) → j < q → get_or (take m a ++ take q b) (m + j) 0 ≡ get_or b j 0
  joined_back j h =
      ap (λ (x : ℕ). get_or (take m a ++ take q b) (x + j) 0) (sym front) ∙ get_or-append-add (take m a) (take q b) j 0 ∙ get_or-take q b j 0 h

module _ (s : Setting) (c : Card) (S : Singles s) (M : InMarginAt Nine s) (R : Readable s c) where
  -- with chroma off there are no chroma scores
  pub off : (b : Bool) → chroma_on s.layout.hues ≡ b → b ≡ false → chroma_scores s ≡ 0
  unfolding chroma_length symbol_bits
  off b e f = rw (e ∙ f, zero-mul) refl

  chroma-long : (b : Bool) → chroma_on s.layout.hues ≡ b → chroma_scores s ≤ length (chroma_read s c).list
  chroma-long true e = chroma-bits s c S M R e
  chroma-long false e = le_trans (le_of_eq (off false e refl)) zero-le

  chroma_at : (b : Bool) → chroma_on s.layout.hues ≡ b → (j : ℕ) → j < chroma_scores s → get_or (chroma_read s c).list j 0 ≡ bit_of (is_set (get_or c.bits (modules s + j) 0))
  chroma_at true e j h = chroma-bit s c S M R e j h
  chroma_at false e j h = absurd (omega (arith, off false e refl))

  luma-enough : modules s ≤ length (luma_read s c).list
  luma-enough = luma-bits s c S M R

  chroma-enough : chroma_scores s ≤ length (chroma_read s c).list
  chroma-enough = chroma-long (chroma_on s.layout.hues) refl

  read_length : length (bits_read s c) ≡ modules s + chroma_scores s
  unfolding bits_read
  read_length = joined_length (luma_read s c).list (chroma_read s c).list (modules s) (chroma_scores s) luma-enough chroma-enough

  bits_enough : modules s + chroma_scores s ≤ length c.bits
  bits_enough = bits_long (length c.bits) s.layout (modules s) (length s.cxs) (is_drawn s c R).fit.lengths.bits_in

  drawn-length : length (bits_drawn s c) ≡ modules s + chroma_scores s
  unfolding bits_drawn
  drawn-length = length-map (take (modules s + chroma_scores s) c.bits) (λ b. bit_of (is_set b)) ∙ length-take-le (modules s + chroma_scores s) c.bits bits_enough

  drawn-at : (i : ℕ) → i < modules s + chroma_scores s → get_or (bits_drawn s c) i 0 ≡ bit_of (is_set (get_or c.bits i 0))
  unfolding bits_drawn bit_of is_set
  drawn-at i h = get_or-map (λ b. bit_of (is_set b)) (take (modules s + chroma_scores s) c.bits) i 0 ∙ ap (λ (b : ℕ). bit_of (is_set b)) (get_or-take (modules s + chroma_scores s) c.bits i 0 h)

  read-front : (i : ℕ) → i < modules s → is_nan (get_or (refined_card s c).luma i nan) ≡ false → get_or (bits_read s c) i 0 ≡ bit_of (is_set (get_or c.bits i 0))
  unfolding bits_read
  read-front i l r = joined-front (luma_read s c).list (chroma_read s c).list (modules s) (chroma_scores s) luma-enough chroma-enough i l ∙ luma-bit s c S M R i l r

  read_back : (j : ℕ) → j < chroma_scores s → get_or (bits_read s c) (modules s + j) 0 ≡ bit_of (is_set (get_or c.bits (modules s + j) 0))
  unfolding bits_read
  read_back j l = joined_back (luma_read s c).list (chroma_read s c).list (modules s) (chroma_scores s) luma-enough chroma-enough j l ∙ chroma_at (chroma_on s.layout.hues) refl j l

  pub each_read : EachRead s c
  each_read =
      record {
        drawn-length = drawn-length;
        read_length = read_length;
        luma = λ i l r. read-front i l r ∙ sym (drawn-at i (omega arith));
        chroma = λ j l. read_back j l ∙ sym (drawn-at (modules s + j) (omega arith));
      }

  -- all of them
  module _ (N : NoNan s c) where
    same_at : (i : ℕ) → i < modules s + chroma_scores s → (b : Bool) → ltb i (modules s) ≡ b → get_or (bits_read s c) i 0 ≡ get_or (bits_drawn s c) i 0
    same_at i h true e = let l = ltb-true i (modules s) e in each_read.luma i l (N i l)
    same_at i h false e =
        let l = ltb-false i (modules s) e in
        let z : modules s + (i - modules s) ≡ i = omega arith in
        subst (λ (x : ℕ). get_or (bits_read s c) x 0 ≡ get_or (bits_drawn s c) x 0) z (each_read.chroma (i - modules s) (omega arith))

    pub read_as_drawn_at_nine : ReadAsDrawn s c
    read_as_drawn_at_nine =
        record {
          drawn-length = drawn-length;
          read_length = read_length;
          same = ext_get_or 0 (bits_read s c) (bits_drawn s c) (read_length ∙ sym drawn-length) (λ i h. same_at i (omega (arith, read_length)) (ltb i (modules s)) refl);
        }

-- a card inside the margin
pub read_as_drawn : (s : Setting) (c : Card) → Singles s → InMargin s → Readable s c → ReadAsDrawn s c
read_as_drawn s c S M R = read_as_drawn_at_nine s c S (at_nine s M) R (no_nan s c S M R)

-- two cards that are read as they were drawn
guaranteed : (s : Setting) (a b : Card) → ReadAsDrawn s a → ReadAsDrawn s b → Guaranteed s a b
guaranteed s a b p q =
    record {
      first = p;
      second = q;
      equal-read = λ e. p.same ∙ e ∙ sym q.same;
      equal-drawn = λ e. sym p.same ∙ e ∙ q.same;
    }

pub read_guarantee_at_nine : ReadGuaranteeAtNine
read_guarantee_at_nine s a b S M A B P Q = guaranteed s a b (read_as_drawn_at_nine s a S M A P) (read_as_drawn_at_nine s b S M B Q)

pub each-read_at_nine : EachReadAtNine
each-read_at_nine = each_read

pub read_guarantee : ReadGuarantee
read_guarantee s a b S M A B = guaranteed s a b (read_as_drawn s a S M A) (read_as_drawn s b S M B)
