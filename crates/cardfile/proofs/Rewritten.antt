-- The card of an opened file is written as the file: each number is written as the bytes that it was read from, the sections come one after the other from the directory to the end of the
-- file, so every byte is written where it stood. Assumes nothing.
use mathlib.Core.Path.{◌≡◌, refl, sym, ap, ◌∙◌}
use mathlib.Core.Bool.{Bool, true, false, cond}
use mathlib.Core.List.{List, [], ◌∷◌, ◌++◌}
use Prim.Native.Nat.{ℕ, zero, suc, ◌+◌, ◌-◌, ◌*◌, ◌/◌, ◌%◌, ◌≤◌, ◌<◌}
use native.Mathlib.Nat.{mul-suc}
use native.Mathlib.Omega.{arith}
use borrow.Author.Tests.{ltb-true, ltb-false}
use lib.Dec.{ltb, T}
use lib.IntN.{ℤ, pos, negsuc}
use lib.Signed.{mag}
use lib.ListN.{length, get_or, length-append, get_or-append}
use lib.Seq.{get_or-append-add, ext_get_or}
use lib.Ieee.{Float, nan, binary32, is_nan, of_bits, to_bits}
use lib.Ieee.Bits.{to_bits-of_bits}
use Rattle.floatlaws.specs.Nan.{only_nan}
use Rattle.answers.specs.Answers.{gives}
use Rattle.card.specs.Number.{u16_at, u32_at, f32_at, i16_of, i16_at}
use Rattle.card.specs.File.{offset_of, length_of, start_of, malformed, settings_at, section_of, card_of, opened}
use Rattle.card.specs.declared.Card.{Card}
use Rattle.card.proofs.Accepted.{tests, starts, ends, lengths_are, not-refused, accepted}
use Rattle.card.proofs.Signed.{position-small}
use Rattle.card.specs.Sections.{float_at, position_of, coordinate_at, component_at}
use Rattle.listing.specs.Text.{rows}
use Rattle.readout.specs.Sheet.{Sheet}
use Rattle.reader.specs.File.{list_of, sheet_of, references_of}
use Rattle.reader.specs.Text.{card_text}
use Rattle.reader.proofs.Lists.{list_length, list_at, list-every}
use Rattle.reader.proofs.Listed.{floats-fit, colours-fit}
use Rattle.cardfile.specs.Writer.{u16_bytes, u32_bytes, bits_of, i16_bytes, f32_bytes, settings_bytes, float_at_bytes, floats_bytes, colour_bytes, module_bytes, modules_bytes, cell_bytes, cells_bytes, directory, card_file}
use Rattle.cardfile.specs.Laws.{Fits, Typed, NanAsWritten, Plain, Rewritten}
use Rattle.cardfile.proofs.Written.{the_nan, read_as, laid_out_bytes, Pairs, forty, all, float-wide, module_wide, cell-wide, settings-wide, is_laid-out, long-floats, long-modules, long-cells, returned}

-- ---- numbers from their readings

bits_by : (n : ℕ) (b : Bool) → n < 65536 → bits_of (cond b (pos n) (negsuc (65535 - n))) ≡ n
unfolding bits_of
bits_by n true h = refl
bits_by n false h = omega arith

bits_again : (n : ℕ) → n < 65536 → bits_of (i16_of n) ≡ n
unfolding i16_of
bits_again n h = bits_by n (ltb n 32768) h

pattern-again : (n : ℕ) → n < 4294967296 → (T (is_nan (of_bits binary32 n)) → n ≡ 0x7fc0_0000) → to_bits binary32 (of_bits binary32 n) ≡ n
pattern-again n h one = by (is_nan (of_bits binary32 n)) refl
  where
    by : (b : Bool) → is_nan (of_bits binary32 n) ≡ b → to_bits binary32 (of_bits binary32 n) ≡ n
    by true e =
        let known : of_bits binary32 n ≡ nan = only_nan (of_bits binary32 n) e in
        ap (to_bits binary32) known ∙ the_nan ∙ sym (one (rw e tt))
    by false e = to_bits-of_bits binary32 n h (rw e tt)

f32-wide : (v : Float) → length (f32_bytes v) ≡ 4
unfolding f32_bytes u32_bytes u16_bytes
f32-wide v = refl

i16_wide : (z : ℤ) → length (i16_bytes z) ≡ 2
unfolding i16_bytes u16_bytes
i16_wide z = refl

u32_wide : (n : ℕ) → length (u32_bytes n) ≡ 4
unfolding u32_bytes u16_bytes
u32_wide n = refl

u16_wide : (n : ℕ) → length (u16_bytes n) ≡ 2
unfolding u16_bytes
u16_wide n = refl

eight : (p : ℕ) {n : ℕ} → n ≡ 4 → p + 4 + n ≡ p + 8
eight p e = omega arith

-- ---- bytes of a file

module _ (s : List ℕ) (byte : (i : ℕ) → get_or s i 0 < 256) where
  -- the list stands in the file from this place on
  record Stands (at : ℕ) (l : List ℕ) : Type 0 where
    same : (k : ℕ) → k < length l → get_or l k 0 ≡ get_or s (at + k) 0

  none : (at : ℕ) → Stands at []
  none at = record { same = λ k h. absurd (omega arith) }

  both : (at end : ℕ) (a b : List ℕ) → at + length a ≡ end → Stands at a → Stands end b → Stands at (a ++ b)
  both at end a b e p q = record { same = λ k h. by k h (ltb k (length a)) refl }
    where
      parts : (m k : ℕ) → m ≤ k → k ≡ m + (k - m)
      parts m k h = omega arith

      place : (at m k end : ℕ) → m ≤ k → at + m ≡ end → end + (k - m) ≡ at + k
      place at m k end h e = omega arith

      by : (k : ℕ) → k < length (a ++ b) → (t : Bool) → ltb k (length a) ≡ t → get_or (a ++ b) k 0 ≡ get_or s (at + k) 0
      by k h true f = get_or-append a b 0 k (ltb-true k (length a) f) ∙ p.same k (ltb-true k (length a) f)
      by k h false f =
          let n : length a ≤ k = ltb-false k (length a) f in
          ap (λ (j : ℕ). get_or (a ++ b) j 0) (parts (length a) k n) ∙ get_or-append-add a b (k - length a) 0 ∙ q.same (k - length a) (omega (arith, length-append a b)) ∙
          ap (λ (j : ℕ). get_or s j 0) (place at (length a) k end n e)

  first : (at next x : ℕ) (l : List ℕ) → at + 1 ≡ next → x ≡ get_or s at 0 → Stands next l → Stands at (x ∷ l)
  first at next x l n e p = both at next (x ∷ []) l n (record { same = one }) p
    where
      here : (at : ℕ) → at ≡ at + 0
      here at = omega arith

      one : (k : ℕ) → k < 1 → get_or (x ∷ []) k 0 ≡ get_or s (at + k) 0
      one zero h = e ∙ ap (λ (j : ℕ). get_or s j 0) (here at)
      one (suc k) h = absurd (omega arith)

  -- ---- the numbers

  u16_small : (p : ℕ) → u16_at s p < 65536
  unfolding u16_at
  u16_small p = omega (arith, byte p, byte (p + 1))

  u16_stands : (p : ℕ) → Stands p (u16_bytes (u16_at s p))
  unfolding u16_bytes u16_at
  u16_stands p =
      let l = byte p in
      let h = byte (p + 1) in
      first p (p + 1) _ _ refl (omega arith) (first (p + 1) (p + 2) _ [] (omega arith) (omega arith) (none (p + 2)))

  u32_small : (p : ℕ) → u32_at s p < 4294967296
  unfolding u32_at
  u32_small p = omega (arith, u16_small p, u16_small (p + 2))

  u32_stands : (p : ℕ) → Stands p (u32_bytes (u32_at s p))
  unfolding u32_bytes u16_bytes u32_at u16_at
  u32_stands p =
      let a = byte p in
      let b = byte (p + 1) in
      let c = byte (p + 2) in
      let d = byte (p + 2 + 1) in
      first p (p + 1) _ _ refl (omega arith)
      (first (p + 1) (p + 2) _ _ (omega arith) (omega arith) (first (p + 2) (p + 2 + 1) _ _ refl (omega arith) (first (p + 2 + 1) (p + 4) _ [] (omega arith) (omega arith) (none (p + 4)))))

  f32-stands : (p : ℕ) → NanAsWritten s p → Stands p (f32_bytes (f32_at s p))
  unfolding f32_bytes f32_at
  f32-stands p one = rw (pattern-again (u32_at s p) (u32_small p) one) (u32_stands p)

  i16_stands : (p : ℕ) → Stands p (i16_bytes (i16_at s p))
  unfolding i16_bytes i16_at
  i16_stands p = rw (bits_again (u16_at s p) (u16_small p)) (u16_stands p)

  -- ---- records one after the other

  moved : (p q : ℕ) (l m : List ℕ) → p ≡ q → l ≡ m → Stands p l → Stands q m
  moved p q l m e f h = rw (sym e, sym f) h

  rows-stand : (w : ℕ) (f : ℕ → List ℕ) → ((i : ℕ) → length (f i) ≡ w) → (n i at : ℕ) → ((j : ℕ) → j < n → Stands (at + w * j) (f (i + j))) → Stands at (rows f n i)
  unfolding rows
  rows-stand w f wide zero i at h = none at
  rows-stand w f wide (suc n) i at h =
      both at (at + w) (f i) (rows f n (suc i)) (ap (λ (k : ℕ). at + k) (wide i)) (moved (at + w * 0) at (f (i + 0)) (f i) (start at w) (ap f (here i)) (h 0 (omega arith)))
      (rows-stand w f wide n (suc i) (at + w) (λ j g. moved (at + w * suc j) (at + w + w * j) (f (i + suc j)) (f (suc i + j)) (on at w (w * j) (w * suc j) (mul-suc w j)) (ap f (next i j)) (h (suc j) (omega arith))))
    where
      start : (at w : ℕ) → at + w * 0 ≡ at
      start at w = omega arith

      here : (i : ℕ) → i + 0 ≡ i
      here i = omega arith

      on : (at w b t : ℕ) → t ≡ b + w → at + t ≡ at + w + b
      on at w b t e = omega arith

      next : (i j : ℕ) → i + suc j ≡ suc i + j
      next i j = omega arith

  rows_all : (w : ℕ) (f : ℕ → List ℕ) → ((i : ℕ) → length (f i) ≡ w) → (n at : ℕ) → ((j : ℕ) → j < n → Stands (at + w * j) (f j)) → Stands at (rows f n 0)
  rows_all w f wide n at h = rows-stand w f wide n 0 at (λ j g. moved (at + w * j) (at + w * j) (f j) (f (0 + j)) refl (ap f (none_more j)) (h j g))
    where
      none_more : (j : ℕ) → j ≡ 0 + j
      none_more j = omega arith

  -- ---- the sections

  word : (p q : ℕ) (v : Float) → p ≡ q → v ≡ f32_at s p → NanAsWritten s p → Stands q (f32_bytes v)
  word p q v e f one = moved p q (f32_bytes (f32_at s p)) (f32_bytes v) e (ap f32_bytes (sym f)) (f32-stands p one)

  floats-stand : (at n : ℕ) → ((i : ℕ) → i < n → NanAsWritten s (at + 4 * i)) → Stands at (floats_bytes (list_of (float_at s at) n))
  unfolding float_at_bytes
  floats-stand at n ones =
      let l = list_of (float_at s at) n in
      rows_all 4 (float_at_bytes l) (float-wide l) (length l) at
      (λ j h. let g : j < n = omega (arith, list_length (float_at s at) n) in word (at + 4 * j) (at + 4 * j) (get_or l j nan) refl (list_at nan (float_at s at) n j g) (ones j g))

  -- the colour of record j
  module _ (at n j : ℕ) (h : j < n) where
    component_is : (r k : ℕ) → r < 3 → k ≡ 3 * j + r → get_or (list_of (component_at s at) (3 * n)) k nan ≡ f32_at s (at + 16 * j + 4 + 4 * r)
    component_is r k g e = list_at nan (component_at s at) (3 * n) k (omega arith) ∙ ap (f32_at s) (place at j r k g e)
      where
        place : (at j r k : ℕ) → r < 3 → k ≡ 3 * j + r → at + 16 * (k / 3) + 4 + 4 * (k % 3) ≡ at + 16 * j + 4 + 4 * r
        place at j r k g e = omega arith

    colour-stands : (p : ℕ) → at + 16 * j + 4 ≡ p → ((r : ℕ) → r < 3 → NanAsWritten s (at + 16 * j + 4 + 4 * r)) → Stands p (colour_bytes (list_of (component_at s at) (3 * n)) j)
    unfolding colour_bytes
    colour-stands p e ones =
        let raw = list_of (component_at s at) (3 * n) in
        let q = at + 16 * j + 4 in
        both p (p + 4) (f32_bytes (get_or raw (3 * j) nan)) _ (ap (λ (k : ℕ). p + k) (f32-wide (get_or raw (3 * j) nan)))
        (word (q + 4 * 0) p (get_or raw (3 * j) nan) (omega arith) (component_is 0 (3 * j) (omega arith) (omega arith)) (ones 0 (omega arith)))
        (both (p + 4) (p + 8) (f32_bytes (get_or raw (3 * j + 1) nan)) _ (eight p (f32-wide (get_or raw (3 * j + 1) nan)))
        (word (q + 4 * 1) (p + 4) (get_or raw (3 * j + 1) nan) (omega arith) (component_is 1 (3 * j + 1) (omega arith) refl) (ones 1 (omega arith)))
        (word (q + 4 * 2) (p + 8) (get_or raw (3 * j + 2) nan) (omega arith) (component_is 2 (3 * j + 2) (omega arith) refl) (ones 2 (omega arith))))

  -- two numbers of 16 bits and a colour
  record-stands : (p : ℕ) (a b l : List ℕ) → length a ≡ 2 → length b ≡ 2 → Stands p a → Stands (p + 2) b → Stands (p + 4) l → Stands p (a ++ (b ++ l))
  record-stands p a b l e f x y z = both p (p + 2) a (b ++ l) (omega arith) x (both (p + 2) (p + 4) b l (omega arith) y z)

  module_stands : (at n j : ℕ) → j < n → ((r : ℕ) → r < 3 → NanAsWritten s (at + 16 * j + 4 + 4 * r)) →
      Stands (at + 16 * j) (module_bytes (list_of (position_of s at) n) (list_of (position_of s (at + 2)) n) (list_of (component_at s at) (3 * n)) j)
  unfolding module_bytes
  module_stands at n j h ones =
      let x = get_or (list_of (position_of s at) n) j (pos 0) in
      let y = get_or (list_of (position_of s (at + 2)) n) j (pos 0) in
      let p = at + 16 * j in
      record-stands p (i16_bytes x) (i16_bytes y) _ (i16_wide x) (i16_wide y)
      (moved p p (i16_bytes (i16_at s p)) (i16_bytes x) refl (ap i16_bytes (sym (list_at (pos 0) (position_of s at) n j h))) (i16_stands p))
      (moved (at + 2 + 16 * j) (p + 2) (i16_bytes (i16_at s (at + 2 + 16 * j))) (i16_bytes y) (omega arith) (ap i16_bytes (sym (list_at (pos 0) (position_of s (at + 2)) n j h))) (i16_stands (at + 2 + 16 * j)))
      (colour-stands at n j h (p + 4) refl ones)

  cell-stands : (at n j : ℕ) → j < n → ((r : ℕ) → r < 3 → NanAsWritten s (at + 16 * j + 4 + 4 * r)) →
      Stands (at + 16 * j) (cell_bytes (list_of (coordinate_at s at) n) (list_of (coordinate_at s (at + 2)) n) (list_of (component_at s at) (3 * n)) j)
  unfolding cell_bytes
  cell-stands at n j h ones =
      let x = get_or (list_of (coordinate_at s at) n) j 0 in
      let y = get_or (list_of (coordinate_at s (at + 2)) n) j 0 in
      let p = at + 16 * j in
      record-stands p (u16_bytes x) (u16_bytes y) _ (u16_wide x) (u16_wide y)
      (moved p p (u16_bytes (u16_at s p)) (u16_bytes x) refl (ap u16_bytes (sym (list_at 0 (coordinate_at s at) n j h))) (u16_stands p))
      (moved (at + 2 + 16 * j) (p + 2) (u16_bytes (u16_at s (at + 2 + 16 * j))) (u16_bytes y) (omega arith) (ap u16_bytes (sym (list_at 0 (coordinate_at s (at + 2)) n j h))) (u16_stands (at + 2 + 16 * j)))
      (colour-stands at n j h (p + 4) refl ones)

  settings-stand : get_or s 45 0 < 8 → Stands 40 (settings_bytes (settings_at s 40))
  unfolding settings_bytes settings_at
  settings-stand h =
      both 40 42 (u16_bytes (u16_at s 40)) _ (ap (λ (k : ℕ). 40 + k) (u16_wide (u16_at s 40))) (u16_stands 40)
      (first 42 43 _ _ refl refl (first 43 44 _ _ refl refl (first 44 45 _ _ refl refl (first 45 46 _ _ refl (omega arith) (u16_stands 46)))))

  -- ---- the directory

  pair-stands : (k at : ℕ) (a : List ℕ) (l : List (List ℕ)) → offset_of s k ≡ at → length_of s k ≡ length a → Stands (8 * k + 8) (directory (at + length a) l) → Stands (8 * k) (directory at (a ∷ l))
  unfolding directory offset_of length_of
  pair-stands k at a l e f p =
      both (8 * k) (8 * k + 4) (u32_bytes at) _ (ap (λ (m : ℕ). 8 * k + m) (u32_wide at)) (moved (8 * k) (8 * k) (u32_bytes (u32_at s (8 * k))) (u32_bytes at) refl (ap u32_bytes e) (u32_stands (8 * k)))
      (both (8 * k + 4) (8 * k + 8) (u32_bytes (length a)) _ (eight (8 * k) (u32_wide (length a)))
      (moved (8 * k + 4) (8 * k + 4) (u32_bytes (u32_at s (8 * k + 4))) (u32_bytes (length a)) refl (ap u32_bytes f) (u32_stands (8 * k + 4))) p)

  end_stands : (at place : ℕ) → Stands place (directory at [])
  unfolding directory
  end_stands at place = none place

  module _ (a b c d e : List ℕ) (p : Pairs s (length a) (length b) (length c) (length d) (length e)) where
    directory-stands : Stands 0 (directory 40 (a ∷ b ∷ c ∷ d ∷ e ∷ []))
    directory-stands =
        pair-stands 0 40 a _ p.offset_0 p.length_0
        (pair-stands 1 (40 + length a) b _ p.offset_1 p.length_1
        (pair-stands 2 (40 + length a + length b) c _ p.offset_2 p.length_2
        (pair-stands 3 (40 + length a + length b + length c) d _ p.offset_3 p.length_3
        (pair-stands 4 (40 + length a + length b + length c + length d) e _ p.offset_4 p.length_4 (end_stands _ 40)))))

    file-stands : Stands 40 a → Stands (40 + length a) b → Stands (40 + length a + length b) c → Stands (40 + length a + length b + length c) d → Stands (40 + length a + length b + length c + length d) e →
        Stands 0 (laid_out_bytes a b c d e)
    file-stands f g h i j =
        let ab = 40 + length a in
        let bc = ab + length b in
        let cd = bc + length c in
        let de = cd + length d in
        both 0 40 (directory 40 (a ∷ b ∷ c ∷ d ∷ e ∷ [])) _ (ap (λ (k : ℕ). 0 + k) (forty a b c d e)) directory-stands
        (both 40 ab a _ refl f (both ab bc b _ refl g (both bc cd c _ refl h (both cd de d _ refl i (both de (de + length e) e [] refl j (none (de + length e)))))))

    same_file : length s ≤ 16384 → Stands 0 (laid_out_bytes a b c d e) → laid_out_bytes a b c d e ≡ s
    same_file small f =
        let long : length (laid_out_bytes a b c d e) ≡ length s = all a b c d e (omega (arith, p.whole)) ∙ sym p.whole in
        ext_get_or 0 (laid_out_bytes a b c d e) s long (λ i h. f.same i h ∙ ap (λ (k : ℕ). get_or s k 0) (zero_more i))
      where
        zero_more : (i : ℕ) → 0 + i ≡ i
        zero_more i = omega arith

-- ---- the card of a file that is accepted

module _ (s : List ℕ) (good : malformed 5 s ≡ false) where
  abbrev card : Card
  card = card_of 5 s

  abbrev sheet : Sheet
  sheet = sheet_of s card

  abbrev references : List Float
  references = references_of s card

  long-palette : length sheet.palette ≡ 2 + 8 * get_or s 43 0
  unfolding sheet_of card_of settings_at
  long-palette = list_length (float_at s (offset_of s 1)) (2 + 8 * get_or s 43 0)

  long-references : length references ≡ 8 * (length_of s 2 / 32)
  unfolding references_of card_of section_of
  long-references = list_length (float_at s (offset_of s 2)) (8 * (length_of s 2 / 32))

  long_xs : length sheet.xs ≡ length_of s 3 / 16
  unfolding sheet_of card_of section_of
  long_xs = list_length (position_of s (offset_of s 3)) (length_of s 3 / 16)

  long-cxs : length sheet.cxs ≡ length_of s 4 / 16
  unfolding sheet_of card_of section_of
  long-cxs = list_length (coordinate_at s (offset_of s 4)) (length_of s 4 / 16)

  -- its sections are as long as those that are written
  the_pairs : Pairs s (length (settings_bytes sheet.settings)) (length (floats_bytes sheet.palette)) (length (floats_bytes references)) (length (modules_bytes sheet)) (length (cells_bytes sheet))
  unfolding start_of
  the_pairs =
      let l = lengths_are 5 s good in
      let l0 = settings-wide sheet.settings in
      let l1 = long-floats sheet.palette in
      let l2 = long-floats references in
      let l3 = long-modules sheet in
      let l4 = long-cells sheet in
      let n1 = long-palette in
      let n2 = long-references in
      let n3 = long_xs in
      let n4 = long-cxs in
      record {
        offset_0 = starts 5 s good 0 (omega arith);
        offset_1 = omega (arith, starts 5 s good 1 (omega arith));
        offset_2 = omega (arith, starts 5 s good 2 (omega arith));
        offset_3 = omega (arith, starts 5 s good 3 (omega arith));
        offset_4 = omega (arith, starts 5 s good 4 (omega arith));
        length_0 = omega arith;
        length_1 = omega arith;
        length_2 = omega arith;
        length_3 = omega arith;
        length_4 = omega arith;
        whole = omega (arith, ends 5 s good);
      }

  few : 56 + 32 * get_or s 43 0 + 4 * length references + 16 * length sheet.xs + 16 * length sheet.cxs ≤ 16384
  few =
      let p = the_pairs.whole in
      let l1 = long-floats sheet.palette in
      omega (arith, settings-wide sheet.settings, long-palette, long-floats references, long-modules sheet, long-cells sheet, (tests 5 s good).small)

  module _ (byte : (i : ℕ) → get_or s i 0 < 256) where
    the_room : Fits sheet references
    unfolding sheet_of references_of card_of section_of settings_at
    the_room =
        record {
          side = (tests 5 s good).side;
          version = byte 42;
          hues = byte 43;
          size = byte 44;
          mask = omega arith;
          grid = u16_small s byte 46;
          palette = long-palette;
          eights = omega (arith, long-references);
          ys = list_length (position_of s (offset_of s 3 + 2)) (length_of s 3 / 16) ∙ sym long_xs;
          raw = list_length (component_at s (offset_of s 3)) (3 * (length_of s 3 / 16)) ∙ ap (λ (k : ℕ). 3 * k) (sym long_xs);
          cys = list_length (coordinate_at s (offset_of s 4 + 2)) (length_of s 4 / 16) ∙ sym long-cxs;
          craw = list_length (component_at s (offset_of s 4)) (3 * (length_of s 4 / 16)) ∙ ap (λ (k : ℕ). 3 * k) (sym long-cxs);
          small = few;
        }

    the_types : Typed sheet references
    unfolding sheet_of references_of card_of section_of settings_at
    the_types =
        record {
          palette = floats-fit s (offset_of s 1) (2 + 8 * get_or s 43 0);
          of_references = floats-fit s (offset_of s 2) (8 * (length_of s 2 / 32));
          xs = list-every (λ z. mag z < 32768) (pos 0) (position_of s (offset_of s 3)) (omega arith) (position-small s (offset_of s 3)) (length_of s 3 / 16);
          ys = list-every (λ z. mag z < 32768) (pos 0) (position_of s (offset_of s 3 + 2)) (omega arith) (position-small s (offset_of s 3 + 2)) (length_of s 3 / 16);
          raw = colours-fit s (offset_of s 3) (length_of s 3 / 16);
          cxs = list-every (λ n. n < 65536) 0 (coordinate_at s (offset_of s 4)) (omega arith) (λ i. u16_small s byte (offset_of s 4 + 16 * i)) (length_of s 4 / 16);
          cys = list-every (λ n. n < 65536) 0 (coordinate_at s (offset_of s 4 + 2)) (omega arith) (λ i. u16_small s byte (offset_of s 4 + 2 + 16 * i)) (length_of s 4 / 16);
          craw = colours-fit s (offset_of s 4) (length_of s 4 / 16);
        }

    the-text : card_text (card_file sheet references) ≡ card_text s
    the-text = (returned sheet references the_room the_types).text ∙ sym (read_as s card sheet references (not-refused 5 s good) refl refl)

    module _ (plain : Plain s card) where
      palette-stands : Stands s byte (offset_of s 1) (floats_bytes sheet.palette)
      unfolding sheet_of card_of settings_at
      palette-stands = floats-stand s byte (offset_of s 1) (2 + 8 * get_or s 43 0) plain.palette

      references-stand : Stands s byte (offset_of s 2) (floats_bytes references)
      unfolding references_of card_of section_of
      references-stand = floats-stand s byte (offset_of s 2) (8 * (length_of s 2 / 32)) plain.of_references

      modules-stand : Stands s byte (offset_of s 3) (modules_bytes sheet)
      unfolding sheet_of card_of section_of
      modules-stand =
          rows_all s byte 16 (module_bytes sheet.xs sheet.ys sheet.raw) (module_wide sheet.xs sheet.ys sheet.raw) (length sheet.xs) (offset_of s 3)
          (λ j h. let g : j < length_of s 3 / 16 = omega (arith, long_xs) in module_stands s byte (offset_of s 3) (length_of s 3 / 16) j g (λ r k. plain.raw j r g k))

      cells-stand : Stands s byte (offset_of s 4) (cells_bytes sheet)
      unfolding sheet_of card_of section_of
      cells-stand =
          rows_all s byte 16 (cell_bytes sheet.cxs sheet.cys sheet.craw) (cell-wide sheet.cxs sheet.cys sheet.craw) (length sheet.cxs) (offset_of s 4)
          (λ j h. let g : j < length_of s 4 / 16 = omega (arith, long-cxs) in cell-stands s byte (offset_of s 4) (length_of s 4 / 16) j g (λ r k. plain.craw j r g k))

      the_settings : Stands s byte 40 (settings_bytes sheet.settings)
      unfolding sheet_of card_of
      the_settings = settings-stand s byte plain.mask

      the_bytes : card_file sheet references ≡ s
      the_bytes =
          let a = settings_bytes sheet.settings in
          let b = floats_bytes sheet.palette in
          let c = floats_bytes references in
          let d = modules_bytes sheet in
          let e = cells_bytes sheet in
          let p = the_pairs in
          is_laid-out sheet references ∙
          same_file s byte a b c d e p (tests 5 s good).small
          (file-stands s byte a b c d e p the_settings (moved s byte (offset_of s 1) (40 + length a) b b p.offset_1 refl palette-stands)
          (moved s byte (offset_of s 2) (40 + length a + length b) c c p.offset_2 refl references-stand)
          (moved s byte (offset_of s 3) (40 + length a + length b + length c) d d p.offset_3 refl modules-stand)
          (moved s byte (offset_of s 4) (40 + length a + length b + length c + length d) e e p.offset_4 refl cells-stand))

pub rewritten : (s : List ℕ) (card : Card) → ((i : ℕ) → get_or s i 0 < 256) → opened 5 s ≡ gives card → Rewritten s card
rewritten s card byte e =
    let h = accepted s card (sym e) in
    rw h.is (record { room = the_room s h.well_formed byte; typed = the_types s h.well_formed byte; text = the-text s h.well_formed byte; bytes = the_bytes s h.well_formed byte })
