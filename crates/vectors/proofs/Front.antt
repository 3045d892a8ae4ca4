-- A text, or a row, from one place on: at its front is the byte at that place, and what is left behind that gives the loop's answer. Assumes nothing.
use Rattle.std.proofs.Common.{◌≡◌, ℕ, Option, None, Some, ◌+◌, ◌*◌, ◌%◌, ◌<◌, ◌≤◌, min, Bool, true, false, ltb, leb, List, ◌∷◌, length, get_or, take, drop, sym, refl, ap, ◌∙◌, add-one, arith, drop_of_length-le, length-drop, length-take-le, take_all, drop-cons, ltb-false, ltb-true, leb-false, leb-true}
use lib.ListN.{get_or-eq_default}
use Rattle.std.specs.Option.{option_map_or}
use Rattle.vectors.specs.Words.{digit_of, spelled, digits_from}
use Rattle.vectors.specs.Answers.{shared_front}
use Rattle.vectors.specs.declared.Digits.{Digits}

-- past the end there are zeros
pub zero-past : (text : List ℕ) (at : ℕ) → length text ≤ at → 0 ≡ get_or text at 0
zero-past text at h = sym (get_or-eq_default text 0 h)

-- what is not zero stands in the text
pub inside : (text : List ℕ) (at b : ℕ) → 0 < b → get_or text at 0 ≡ b → at < length text
inside text at b p e = go (ltb at (length text)) refl
  where
    go : (t : Bool) → ltb at (length text) ≡ t → at < length text
    go true q = ltb-true at (length text) q
    go false q = absurd (omega (arith, p, e, zero-past text at (ltb-false at (length text) q)))

front : (text : List ℕ) (i : ℕ) → i < length text → drop i text ≡ get_or text i 0 ∷ drop (i + 1) text
front text i h = rw (add-one, drop-cons text i 0)

-- ---- digits

-- with k digits read, which spell v, those from there on give t
pub record LeftDigits (rest : List ℕ) (at k v i : ℕ) (t : Digits) : Type 0 where
  pub same : spelled v i (drop k rest) ≡ t
  pub place : i ≡ at + k

pub begin-digits : (text rest : List ℕ) (at : ℕ) → rest ≡ drop at text → LeftDigits rest at 0 0 at (digits_from text at)
unfolding digits_from
begin-digits text rest at e = record { same = ap (spelled 0 at) e; place = omega arith }

module _ {rest : List ℕ} {at k v i : ℕ} {t : Digits} (inv : LeftDigits rest at k v i t) where
  abbrev read : Option ℕ → Digits
  read o = option_map_or (λ d. spelled (v % 0x1000_0000_0000_0000 * 16 + d) (i + 1) (drop (k + 1) rest)) o (record { value = v; end = i })

  here : k < length rest → read (digit_of (get_or rest k 0)) ≡ t
  unfolding spelled
  here h = ap (spelled v i) (sym (front rest k h)) ∙ inv.same

  pub stop-digits : {o : Option ℕ} → k < length rest → o ≡ digit_of (get_or rest k 0) → o ≡ None → record { value = v; end = i } ≡ t
  stop-digits h e f = ap read (sym f ∙ e) ∙ here h

  pub turn-digits : {o : Option ℕ} {d : ℕ} → k < length rest → o ≡ digit_of (get_or rest k 0) → o ≡ Some d → LeftDigits rest at (k + 1) (v % 0x1000_0000_0000_0000 * 16 + d) (i + 1) t
  turn-digits h e f = record { same = ap read (sym f ∙ e) ∙ here h; place = omega (arith, inv.place) }

  pub done-digits : length rest ≤ k → record { value = v; end = i } ≡ t
  unfolding spelled
  done-digits h = ap (spelled v i) (sym (drop_of_length-le rest h)) ∙ inv.same

  -- the place stays within the text
  pub room-digits : (text : List ℕ) → rest ≡ drop at text → k < length rest → i < length text
  room-digits text e h = omega (arith, inv.place, ap length e, length-drop at text)

-- ---- the first words of a row

-- the first words up to a number, and up to the smaller of it and the row's length, are the same
pub take-smaller : (r n : ℕ) (l : List ℕ) → r ≡ min n (length l) → take r l ≡ take n l
take-smaller r n l e = go (leb (length l) n) refl
  where
    go : (t : Bool) → leb (length l) n ≡ t → take r l ≡ take n l
    go true q =
        let h = leb-true (length l) n q in
        let k : length l ≤ r = omega (arith, e, h) in
        take_all r l k ∙ sym (take_all n l h)
    go false q =
        let k : r ≡ n = omega (arith, e, leb-false (length l) n q) in
        ap (λ (m : ℕ). take m l) k

pub length-smaller : (r n : ℕ) (l : List ℕ) → r ≡ min n (length l) → r ≡ length (take r l)
length-smaller r n l e = sym (length-take-le r l (omega arith))

pub shared_smaller : (g n w m : ℕ) (got wanted : List ℕ) (r : ℕ) → r ≡ shared_front (take g got) (take w wanted) → g ≡ min n (length got) → w ≡ min m (length wanted)
    → r ≡ shared_front (take n got) (take m wanted)
shared_smaller g n w m got wanted r e f h = cc (take-smaller g n got f, take-smaller w m wanted h)
