-- A card's file is opened and read as the card: each number is read from the bytes that it was written as, since every section lies where the sections before it end, and each record in
-- it where the records before it end. Assumes nothing.
use mathlib.Core.Path.{◌≡◌, refl, sym, ap, subst, ◌∙◌}
use mathlib.Core.Bool.{Bool, false, not, ◌||◌}
use mathlib.Core.List.{List, [], ◌∷◌, ◌++◌, append_assoc}
use Prim.Native.Nat.{ℕ, zero, suc, ◌+◌, ◌-◌, ◌*◌, ◌/◌, ◌%◌, ◌≤◌, ◌<◌}
use native.Mathlib.Nat.{mul-suc}
use native.Mathlib.Omega.{arith}
use borrow.Author.Tests.{lt-ltb, le-ltb, eq-eqb}
use lib.Dec.{ltb, eqb, T}
use lib.IntN.{ℤ, pos, negsuc}
use lib.Signed.{mag}
use lib.ListN.{length, get_or, length-append, get_or-append}
use lib.Seq.{get_or-append-add, ext_get_or}
use lib.Ieee.{Float, nan, binary32, fits, is_nan, of_bits, to_bits}
use lib.Ieee.Bits.{is_true, of_bits-to_bits, to_bits-lt}
use Rattle.floatlaws.specs.Nan.{only_nan}
use Rattle.answers.specs.Answers.{gives}
use Rattle.loops.specs.Loops.{some_of, any_up}
use Rattle.card.specs.Number.{u16_at, u32_at, f32_at, i16_of, i16_at}
use Rattle.card.specs.File.{offset_of, length_of, start_of, misplaced_at, bad_directory, bad_palette, bad_lengths, large_side, malformed, settings_at, section_of, card_of, opened}
use Rattle.card.specs.Sections.{float_at, position_of, coordinate_at, component_at}
use Rattle.card.specs.declared.Settings.{Settings}
use Rattle.card.specs.declared.Card.{Card}
use Rattle.card.proofs.Accepted.{not-refused}
use Rattle.listing.specs.Text.{row, rows}
use Rattle.readout.specs.Sheet.{Sheet, sheet}
use Rattle.reader.specs.File.{list_of, sheet_of, references_of}
use Rattle.reader.specs.Fitting.{fit_text}
use Rattle.reader.specs.Text.{after_opening, card_text}
use Rattle.reader.proofs.Lists.{list_length, list_at}
use Rattle.cardfile.specs.Writer.{u16_bytes, u32_bytes, bits_of, i16_bytes, f32_bytes, settings_bytes, float_at_bytes, floats_bytes, colour_bytes, module_bytes, modules_bytes, cell_bytes, cells_bytes, directory, sections, card_file}
use Rattle.cardfile.specs.Laws.{Fits, card_in, Opens, Typed, NanAsWritten, Plain, Returned}

-- ---- numbers from their bytes

u16_back : (n : ℕ) → n < 65536 → n % 256 + n / 256 % 256 * 256 ≡ n
u16_back n h = omega arith

u32_back : (n : ℕ) → n < 4294967296 → n % 256 + n / 256 % 256 * 256 + (n / 65536 % 256 + n / 65536 / 256 % 256 * 256) * 65536 ≡ n
u32_back n h = omega arith

bits_small : (z : ℤ) → mag z < 32768 → bits_of z < 65536
unfolding bits_of
bits_small (pos n) h = omega arith
bits_small (negsuc n) h = omega arith

i16_back : (z : ℤ) → mag z < 32768 → i16_of (bits_of z) ≡ z
unfolding bits_of i16_of
i16_back (pos n) h = rw (lt-ltb n 32768 h)
i16_back (negsuc n) h = rw (le-ltb (65535 - n) 32768 (omega arith)) (ap negsuc (twice n h))
  where
    twice : (n : ℕ) → n < 32768 → 65535 - (65535 - n) ≡ n
    twice n h = omega arith

-- ---- the text of a file that is opened

pub read_as : (s : List ℕ) (card : Card) (c : Sheet) (references : List Float) → opened 5 s ≡ gives card → sheet_of s card ≡ c → references_of s card ≡ references → card_text s ≡ fit_text c references
unfolding card_text after_opening
read_as s card c references e p q = rw (e, p, q)

-- ---- a directory of five pairs

abbrev pub laid_out_bytes : List ℕ → List ℕ → List ℕ → List ℕ → List ℕ → List ℕ
laid_out_bytes a b c d e = directory 40 (a ∷ b ∷ c ∷ d ∷ e ∷ []) ++ (a ++ (b ++ (c ++ (d ++ (e ++ [])))))

pub record Pairs (s : List ℕ) (l0 l1 l2 l3 l4 : ℕ) : Type 0 where
  pub offset_0 : offset_of s 0 ≡ 40
  pub offset_1 : offset_of s 1 ≡ 40 + l0
  pub offset_2 : offset_of s 2 ≡ 40 + l0 + l1
  pub offset_3 : offset_of s 3 ≡ 40 + l0 + l1 + l2
  pub offset_4 : offset_of s 4 ≡ 40 + l0 + l1 + l2 + l3
  pub length_0 : length_of s 0 ≡ l0
  pub length_1 : length_of s 1 ≡ l1
  pub length_2 : length_of s 2 ≡ l2
  pub length_3 : length_of s 3 ≡ l3
  pub length_4 : length_of s 4 ≡ l4
  pub whole : length s ≡ 40 + l0 + l1 + l2 + l3 + l4

pub forty : (a b c d e : List ℕ) → length (directory 40 (a ∷ b ∷ c ∷ d ∷ e ∷ [])) ≡ 40
unfolding directory u32_bytes u16_bytes
forty a b c d e = refl

lengths : (a b c d e : List ℕ) → length (a ++ (b ++ (c ++ (d ++ (e ++ []))))) ≡ length a + (length b + (length c + (length d + length e)))
lengths a b c d e =
    omega (arith, length-append a (b ++ (c ++ (d ++ (e ++ [])))), length-append b (c ++ (d ++ (e ++ []))), length-append c (d ++ (e ++ [])), length-append d (e ++ []), length-append e [])

module _ (a b c d e : List ℕ) (small : 40 + length a + length b + length c + length d + length e ≤ 16384) where
  pub all : length (laid_out_bytes a b c d e) ≡ 40 + length a + length b + length c + length d + length e
  all = omega (arith, length-append (directory 40 (a ∷ b ∷ c ∷ d ∷ e ∷ [])) (a ++ (b ++ (c ++ (d ++ (e ++ []))))), forty a b c d e, lengths a b c d e)

  pairs : Pairs (laid_out_bytes a b c d e) (length a) (length b) (length c) (length d) (length e)
  unfolding offset_of length_of u32_at u16_at directory u32_bytes u16_bytes
  pairs =
      record {
        offset_0 = refl;
        offset_1 = u32_back (40 + length a) (omega arith);
        offset_2 = u32_back (40 + length a + length b) (omega arith);
        offset_3 = u32_back (40 + length a + length b + length c) (omega arith);
        offset_4 = u32_back (40 + length a + length b + length c + length d) (omega arith);
        length_0 = u32_back (length a) (omega arith);
        length_1 = u32_back (length b) (omega arith);
        length_2 = u32_back (length c) (omega arith);
        length_3 = u32_back (length d) (omega arith);
        length_4 = u32_back (length e) (omega arith);
        whole = all;
      }

settings_same : (st : Settings) (x y z : ℕ) → x ≡ st.side → y ≡ st.mask → z ≡ st.grid →
    record { side = x; version = st.version; hues = st.hues; size = st.size; mask = y; grid = z } ≡ st
settings_same st x y z e f g = rw (e, f, g)

mask_in : (st : Settings) (b c d e : List ℕ) → get_or (laid_out_bytes (settings_bytes st) b c d e) 45 0 ≡ st.mask
unfolding directory u32_bytes u16_bytes settings_bytes
mask_in st b c d e = refl

mask-back : (n : ℕ) → n < 8 → n % 8 ≡ n
mask-back n h = omega arith

settings-at : (st : Settings) (b c d e : List ℕ) → st.side < 65536 → st.mask < 8 → st.grid < 65536 → settings_at (laid_out_bytes (settings_bytes st) b c d e) 40 ≡ st
unfolding settings_at u16_at directory u32_bytes u16_bytes settings_bytes
settings-at st b c d e h g k = settings_same st _ _ _ (u16_back st.side h) (mask-back st.mask g) (u16_back st.grid k)

-- ---- a file with such a directory is accepted

or_false : (a b : Bool) → a ≡ false → b ≡ false → a || b ≡ false
or_false a b e f = rw (e, f)

same_eqb : (a b : ℕ) → a ≡ b → not (eqb a b) ≡ false
same_eqb a b e = rw (eq-eqb a b e)

none_of_five : (p : ℕ → Bool) → p 0 ≡ false → p 1 ≡ false → p 2 ≡ false → p 3 ≡ false → p 4 ≡ false → any_up 0 5 p ≡ false
unfolding any_up some_of
none_of_five p a b c d e = rw (a, b, c, d, e)

module _ (s : List ℕ) (st : Settings) (l1 l2 l3 l4 : ℕ) (p : Pairs s 8 l1 l2 l3 l4) (small : length s ≤ 16384) (is : settings_at s 40 ≡ st) where
  directory-good : bad_directory 5 s ≡ false
  unfolding bad_directory start_of
  directory-good =
      or_false (any_up 0 5 (misplaced_at 5 s)) (not (eqb (start_of 5 s 5) (length s)))
      (none_of_five (misplaced_at 5 s) (same_eqb (offset_of s 0) (start_of 5 s 0) p.offset_0) (same_eqb (offset_of s 1) (start_of 5 s 1) (omega arith)) (same_eqb (offset_of s 2) (start_of 5 s 2) (omega arith))
      (same_eqb (offset_of s 3) (start_of 5 s 3) (omega arith)) (same_eqb (offset_of s 4) (start_of 5 s 4) (omega arith)))
      (same_eqb (start_of 5 s 5) (length s) (omega arith))

  lengths-good : l1 ≡ 8 + 32 * st.hues → l2 % 32 ≡ 0 → l3 % 16 ≡ 0 → l4 % 16 ≡ 0 → bad_lengths 5 s ≡ false
  unfolding bad_lengths bad_palette settings_at
  lengths-good e f g h =
      let hues : get_or s 43 0 ≡ st.hues = ap (λ (t : Settings). t.hues) is in
      or_false (not (eqb (length_of s 0) 8)) _ (same_eqb (length_of s 0) 8 p.length_0)
      (or_false (not (eqb (length_of s 1) (8 + 32 * get_or s 43 0))) _ (same_eqb (length_of s 1) (8 + 32 * get_or s 43 0) (omega arith))
      (or_false (not (eqb (length_of s 2 % 32) 0)) _ (same_eqb (length_of s 2 % 32) 0 (omega arith))
      (or_false (not (eqb (length_of s 3 % 16) 0)) _ (same_eqb (length_of s 3 % 16) 0 (omega arith)) (same_eqb (length_of s 4 % 16) 0 (omega arith)))))

  side-good : st.side ≤ 64 → large_side 5 s ≡ false
  unfolding large_side settings_at
  side-good h = let side : u16_at s 40 ≡ st.side = ap (λ (t : Settings). t.side) is in le-ltb 64 (u16_at s 40) (omega arith)

  well_formed : bad_lengths 5 s ≡ false → large_side 5 s ≡ false → malformed 5 s ≡ false
  unfolding malformed
  well_formed e f =
      or_false (ltb 16384 (length s)) _ (le-ltb 16384 (length s) small)
      (or_false (ltb (length s) 40) _ (le-ltb (length s) 40 (omega arith)) (or_false (bad_directory 5 s) _ directory-good (or_false (bad_lengths 5 s) _ e f)))

  card_is : (k m n : ℕ) → l2 / 32 ≡ k → l3 / 16 ≡ m → l4 / 16 ≡ n → card_of 5 s ≡
      record {
        settings = st;
        palette = 48;
        references = record { at = 48 + l1; count = k };
        modules = record { at = 48 + l1 + l2; count = m };
        cells = record { at = 48 + l1 + l2 + l3; count = n };
      }
  unfolding card_of section_of
  card_is k m n e f g = rw (is, p.offset_1, p.offset_2, p.offset_3, p.offset_4, p.length_2, p.length_3, p.length_4, e, f, g)

-- ---- records one after the other

module _ (w : ℕ) (f : ℕ → List ℕ) (wide : (i : ℕ) → length (f i) ≡ w) where
  rows-length : (n i : ℕ) → length (rows f n i) ≡ w * n
  unfolding rows
  rows-length zero i = none w
    where
      none : (w : ℕ) → 0 ≡ w * 0
      none w = omega arith
  rows-length (suc n) i = omega (arith, length-append (f i) (rows f n (suc i)), wide i, rows-length n (suc i), mul-suc w n)

  -- byte k of record j
  rows-byte : (n i j k : ℕ) (post : List ℕ) → j < n → k < w → get_or (rows f n i ++ post) (w * j + k) 0 ≡ get_or (f (i + j)) k 0
  unfolding rows
  rows-byte zero i j k post h g = absurd (omega arith)
  rows-byte (suc n) i zero k post h g =
      ap (λ (l : List ℕ). get_or l (w * 0 + k) 0) (append_assoc (f i) (rows f n (suc i)) post) ∙
      ap (λ (m : ℕ). get_or (f i ++ (rows f n (suc i) ++ post)) m 0) (first w k) ∙
      get_or-append (f i) (rows f n (suc i) ++ post) 0 k (omega (arith, wide i)) ∙
      ap (λ (m : ℕ). get_or (f m) k 0) (here i)
    where
      first : (w k : ℕ) → w * 0 + k ≡ k
      first w k = omega arith

      here : (i : ℕ) → i ≡ i + 0
      here i = omega arith
  rows-byte (suc n) i (suc j) k post h g =
      ap (λ (l : List ℕ). get_or l (w * suc j + k) 0) (append_assoc (f i) (rows f n (suc i)) post) ∙
      ap (λ (m : ℕ). get_or (f i ++ (rows f n (suc i) ++ post)) m 0) (past (length (f i)) (w * j) k (w * suc j) (mul-suc w j) (wide i)) ∙
      get_or-append-add (f i) (rows f n (suc i) ++ post) (w * j + k) 0 ∙
      rows-byte n (suc i) j k post (omega arith) g ∙
      ap (λ (m : ℕ). get_or (f m) k 0) (next i j)
    where
      past : (l b k t : ℕ) → t ≡ b + w → l ≡ w → t + k ≡ l + (b + k)
      past l b k t e f = omega arith

      next : (i j : ℕ) → suc i + j ≡ i + suc j
      next i j = omega arith

-- n records f(0), f(1), .. of w bytes lie in s from `at` on
record Lies (w : ℕ) (f : ℕ → List ℕ) (n : ℕ) (s : List ℕ) (at : ℕ) : Type 0 where
  byte : (j k : ℕ) → j < n → k < w → get_or s (at + (w * j + k)) 0 ≡ get_or (f j) k 0

lie : (w : ℕ) (f : ℕ → List ℕ) → ((i : ℕ) → length (f i) ≡ w) → (n at : ℕ) (s pre post : List ℕ) → s ≡ pre ++ (rows f n 0 ++ post) → length pre ≡ at → Lies w f n s at
lie w f wide n at s pre post e l =
    record {
      byte = λ j k h g.
          ap (λ (t : List ℕ). get_or t (at + (w * j + k)) 0) e ∙ ap (λ (m : ℕ). get_or (pre ++ (rows f n 0 ++ post)) (m + (w * j + k)) 0) (sym l) ∙
          get_or-append-add pre (rows f n 0 ++ post) (w * j + k) 0 ∙ rows-byte w f wide n 0 j k post h g ∙ ap (λ (m : ℕ). get_or (f m) k 0) (none j);
    }
  where
    none : (j : ℕ) → 0 + j ≡ j
    none j = omega arith

module _ (w : ℕ) (f : ℕ → List ℕ) (n : ℕ) (s : List ℕ) (at : ℕ) (lies : Lies w f n s at) (j : ℕ) (h : j < n) where
  byte_in : (k p : ℕ) → k < w → p ≡ at + (w * j + k) → get_or s p 0 ≡ get_or (f j) k 0
  byte_in k p g e = ap (λ (m : ℕ). get_or s m 0) e ∙ lies.byte j k h g

  on : (b k i p : ℕ) → p ≡ at + (b + k) → p + i ≡ at + (b + (k + i))
  on b k i p e = omega arith

  u16_in : (k p : ℕ) → k + 1 < w → p ≡ at + (w * j + k) → u16_at s p ≡ u16_at (f j) k
  unfolding u16_at
  u16_in k p g e = rw (byte_in k p (omega arith) e, byte_in (k + 1) (p + 1) g (on (w * j) k 1 p e))

  u32_in : (k p : ℕ) → k + 3 < w → p ≡ at + (w * j + k) → u32_at s p ≡ u32_at (f j) k
  unfolding u32_at
  u32_in k p g e = rw (u16_in k p (omega arith) e, u16_in (k + 2) (p + 2) (omega arith) (on (w * j) k 2 p e))

-- ---- the numbers of a section

list_is : {A : Type 0} (d : A) (f : ℕ → A) (l : List A) (n : ℕ) → n ≡ length l → ((i : ℕ) → i < length l → f i ≡ get_or l i d) → list_of f n ≡ l
list_is d f l n e same =
    ext_get_or d (list_of f n) l (list_length f n ∙ e) (λ i h. let g : i < n = omega (arith, list_length f n) in list_at d f n i g ∙ same i (omega arith))

bits_back : (l : List Float) → ((i : ℕ) → T (fits binary32 (get_or l i nan))) → (i : ℕ) → let n = to_bits binary32 (get_or l i nan) in
    n % 256 + n / 256 % 256 * 256 + (n / 65536 % 256 + n / 65536 / 256 % 256 * 256) * 65536 ≡ n
bits_back l single i = u32_back (to_bits binary32 (get_or l i nan)) (to_bits-lt binary32 (get_or l i nan) (single i))

f32-back : (v : Float) → T (fits binary32 v) → (n : ℕ) → n ≡ to_bits binary32 v → of_bits binary32 n ≡ v
f32-back v h n e = ap (of_bits binary32) e ∙ of_bits-to_bits binary32 v h

pub the_nan : to_bits binary32 nan ≡ 0x7fc0_0000
unfolding to_bits
the_nan = refl

-- where a NaN is read, one was written
nan-written : (s : List ℕ) (p : ℕ) (v : Float) → T (fits binary32 v) → u32_at s p ≡ to_bits binary32 v → NanAsWritten s p
unfolding f32_at
nan-written s p v h e is =
    let back : of_bits binary32 (u32_at s p) ≡ v = f32-back v h (u32_at s p) e in
    e ∙ ap (to_bits binary32) (only_nan v (is_true (is_nan v) (subst (λ (x : Float). T (is_nan x)) back is))) ∙ the_nan

module _ (l : List Float) (single : (i : ℕ) → T (fits binary32 (get_or l i nan))) (s : List ℕ) (at : ℕ) where
  float_back : (i : ℕ) → u32_at (float_at_bytes l i) 0 ≡ to_bits binary32 (get_or l i nan)
  unfolding u32_at u16_at float_at_bytes f32_bytes u32_bytes u16_bytes
  float_back i = bits_back l single i

  word_in : Lies 4 (float_at_bytes l) (length l) s at → (i : ℕ) → i < length l → u32_at s (at + 4 * i) ≡ to_bits binary32 (get_or l i nan)
  word_in lies i h = u32_in 4 (float_at_bytes l) (length l) s at lies i h 0 (at + 4 * i) (omega arith) (omega arith) ∙ float_back i

  floats_are : Lies 4 (float_at_bytes l) (length l) s at → (n : ℕ) → n ≡ length l → list_of (float_at s at) n ≡ l
  unfolding f32_at
  floats_are lies n e = list_is nan (float_at s at) l n e (λ i h. f32-back (get_or l i nan) (single i) (u32_at s (at + 4 * i)) (word_in lies i h))

  floats-plain : Lies 4 (float_at_bytes l) (length l) s at → (i : ℕ) → i < length l → NanAsWritten s (at + 4 * i)
  floats-plain lies i h = nan-written s (at + 4 * i) (get_or l i nan) (single i) (word_in lies i h)

module _ (f : ℕ → List ℕ) (raw : List Float) (single : (i : ℕ) → T (fits binary32 (get_or raw i nan))) (n : ℕ) (s : List ℕ) (at : ℕ) (lies : Lies 16 f n s at) where
  module _ (coloured : (j r : ℕ) → r < 3 → u32_at (f j) (4 + 4 * r) ≡ to_bits binary32 (get_or raw (3 * j + r) nan)) where
    component_in : (j r : ℕ) → j < n → r < 3 → u32_at s (at + 16 * j + 4 + 4 * r) ≡ to_bits binary32 (get_or raw (3 * j + r) nan)
    component_in j r h g = u32_in 16 f n s at lies j h (4 + 4 * r) (at + 16 * j + 4 + 4 * r) (omega arith) (omega arith) ∙ coloured j r g

    colours_are : length raw ≡ 3 * n → list_of (component_at s at) (3 * n) ≡ raw
    unfolding f32_at
    colours_are e =
        list_is nan (component_at s at) raw (3 * n) (sym e)
        (λ i h. f32-back (get_or raw i nan) (single i) (u32_at s (at + 16 * (i / 3) + 4 + 4 * (i % 3)))
        (component_in (i / 3) (i % 3) (omega arith) (omega arith) ∙ ap (λ (m : ℕ). to_bits binary32 (get_or raw m nan)) (parts i)))
      where
        parts : (i : ℕ) → 3 * (i / 3) + i % 3 ≡ i
        parts i = omega arith

    colours-plain : (j r : ℕ) → j < n → r < 3 → NanAsWritten s (at + 16 * j + 4 + 4 * r)
    colours-plain j r h g = nan-written s (at + 16 * j + 4 + 4 * r) (get_or raw (3 * j + r) nan) (single (3 * j + r)) (component_in j r h g)

  positions_are : (xs : List ℤ) (k q : ℕ) → ((i : ℕ) → mag (get_or xs i (pos 0)) < 32768) → ((j : ℕ) → u16_at (f j) k ≡ bits_of (get_or xs j (pos 0))) → q ≡ at + k → k + 1 < 16 → length xs ≡ n →
      list_of (position_of s q) n ≡ xs
  unfolding i16_at
  positions_are xs k q small back g h e =
      list_is (pos 0) (position_of s q) xs n (sym e)
      (λ i l. ap i16_of (u16_in 16 f n s at lies i (omega arith) k (q + 16 * i) h (omega arith) ∙ back i) ∙ i16_back (get_or xs i (pos 0)) (small i))

  coordinates_are : (cxs : List ℕ) (k q : ℕ) → ((j : ℕ) → u16_at (f j) k ≡ get_or cxs j 0) → q ≡ at + k → k + 1 < 16 → length cxs ≡ n → list_of (coordinate_at s q) n ≡ cxs
  coordinates_are cxs k q back g h e =
      list_is 0 (coordinate_at s q) cxs n (sym e) (λ i l. u16_in 16 f n s at lies i (omega arith) k (q + 16 * i) h (omega arith) ∙ back i)

-- ---- what a record's bytes say

module _ (raw : List Float) (single : (i : ℕ) → T (fits binary32 (get_or raw i nan))) where
  first : (j : ℕ) → to_bits binary32 (get_or raw (3 * j) nan) ≡ to_bits binary32 (get_or raw (3 * j + 0) nan)
  first j = ap (λ (m : ℕ). to_bits binary32 (get_or raw m nan)) (none j)
    where
      none : (j : ℕ) → 3 * j ≡ 3 * j + 0
      none j = omega arith

  module-colours : (xs ys : List ℤ) (j r : ℕ) → r < 3 → u32_at (module_bytes xs ys raw j) (4 + 4 * r) ≡ to_bits binary32 (get_or raw (3 * j + r) nan)
  unfolding u32_at u16_at module_bytes colour_bytes i16_bytes f32_bytes u32_bytes u16_bytes
  module-colours xs ys j zero h = bits_back raw single (3 * j) ∙ first j
  module-colours xs ys j (suc zero) h = bits_back raw single (3 * j + 1)
  module-colours xs ys j (suc (suc zero)) h = bits_back raw single (3 * j + 2)
  module-colours xs ys j (suc (suc (suc r))) h = absurd (omega arith)

  cell-colours : (cxs cys : List ℕ) (j r : ℕ) → r < 3 → u32_at (cell_bytes cxs cys raw j) (4 + 4 * r) ≡ to_bits binary32 (get_or raw (3 * j + r) nan)
  unfolding u32_at u16_at cell_bytes colour_bytes f32_bytes u32_bytes u16_bytes
  cell-colours cxs cys j zero h = bits_back raw single (3 * j) ∙ first j
  cell-colours cxs cys j (suc zero) h = bits_back raw single (3 * j + 1)
  cell-colours cxs cys j (suc (suc zero)) h = bits_back raw single (3 * j + 2)
  cell-colours cxs cys j (suc (suc (suc r))) h = absurd (omega arith)

module_x : (xs ys : List ℤ) (raw : List Float) (j : ℕ) → mag (get_or xs j (pos 0)) < 32768 → u16_at (module_bytes xs ys raw j) 0 ≡ bits_of (get_or xs j (pos 0))
unfolding u16_at module_bytes i16_bytes u16_bytes
module_x xs ys raw j h = u16_back (bits_of (get_or xs j (pos 0))) (bits_small (get_or xs j (pos 0)) h)

module_y : (xs ys : List ℤ) (raw : List Float) (j : ℕ) → mag (get_or ys j (pos 0)) < 32768 → u16_at (module_bytes xs ys raw j) 2 ≡ bits_of (get_or ys j (pos 0))
unfolding u16_at module_bytes i16_bytes u16_bytes
module_y xs ys raw j h = u16_back (bits_of (get_or ys j (pos 0))) (bits_small (get_or ys j (pos 0)) h)

cell_x : (cxs cys : List ℕ) (raw : List Float) (j : ℕ) → get_or cxs j 0 < 65536 → u16_at (cell_bytes cxs cys raw j) 0 ≡ get_or cxs j 0
unfolding u16_at cell_bytes u16_bytes
cell_x cxs cys raw j h = u16_back (get_or cxs j 0) h

cell_y : (cxs cys : List ℕ) (raw : List Float) (j : ℕ) → get_or cys j 0 < 65536 → u16_at (cell_bytes cxs cys raw j) 2 ≡ get_or cys j 0
unfolding u16_at cell_bytes u16_bytes
cell_y cxs cys raw j h = u16_back (get_or cys j 0) h

pub float-wide : (l : List Float) (i : ℕ) → length (float_at_bytes l i) ≡ 4
unfolding float_at_bytes f32_bytes u32_bytes u16_bytes
float-wide l i = refl

pub module_wide : (xs ys : List ℤ) (raw : List Float) (i : ℕ) → length (module_bytes xs ys raw i) ≡ 16
unfolding module_bytes colour_bytes i16_bytes f32_bytes u32_bytes u16_bytes
module_wide xs ys raw i = refl

pub cell-wide : (cxs cys : List ℕ) (raw : List Float) (i : ℕ) → length (cell_bytes cxs cys raw i) ≡ 16
unfolding cell_bytes colour_bytes f32_bytes u32_bytes u16_bytes
cell-wide cxs cys raw i = refl

pub settings-wide : (st : Settings) → length (settings_bytes st) ≡ 8
unfolding settings_bytes u16_bytes
settings-wide st = refl

-- ---- the file of a card

abbrev pub written : Sheet → List Float → List ℕ
written c references = laid_out_bytes (settings_bytes c.settings) (floats_bytes c.palette) (floats_bytes references) (modules_bytes c) (cells_bytes c)

pub is_laid-out : (c : Sheet) (references : List Float) → card_file c references ≡ written c references
unfolding card_file sections row
is_laid-out c references = refl

-- where each section lies
second : (t a b c d e : List ℕ) → t ++ (a ++ (b ++ (c ++ (d ++ (e ++ []))))) ≡ (t ++ a) ++ (b ++ (c ++ (d ++ (e ++ []))))
second t a b c d e = sym (append_assoc t a (b ++ (c ++ (d ++ (e ++ [])))))

third : (t a b c d e : List ℕ) → t ++ (a ++ (b ++ (c ++ (d ++ (e ++ []))))) ≡ ((t ++ a) ++ b) ++ (c ++ (d ++ (e ++ [])))
third t a b c d e = second t a b c d e ∙ sym (append_assoc (t ++ a) b (c ++ (d ++ (e ++ []))))

fourth : (t a b c d e : List ℕ) → t ++ (a ++ (b ++ (c ++ (d ++ (e ++ []))))) ≡ (((t ++ a) ++ b) ++ c) ++ (d ++ (e ++ []))
fourth t a b c d e = third t a b c d e ∙ sym (append_assoc ((t ++ a) ++ b) c (d ++ (e ++ [])))

fifth : (t a b c d e : List ℕ) → t ++ (a ++ (b ++ (c ++ (d ++ (e ++ []))))) ≡ ((((t ++ a) ++ b) ++ c) ++ d) ++ (e ++ [])
fifth t a b c d e = fourth t a b c d e ∙ sym (append_assoc (((t ++ a) ++ b) ++ c) d (e ++ []))

pub long-floats : (l : List Float) → length (floats_bytes l) ≡ 4 * length l
long-floats l = rows-length 4 (float_at_bytes l) (float-wide l) (length l) 0

pub long-modules : (c : Sheet) → length (modules_bytes c) ≡ 16 * length c.xs
long-modules c = rows-length 16 (module_bytes c.xs c.ys c.raw) (module_wide c.xs c.ys c.raw) (length c.xs) 0

pub long-cells : (c : Sheet) → length (cells_bytes c) ≡ 16 * length c.cxs
long-cells c = rows-length 16 (cell_bytes c.cxs c.cys c.craw) (cell-wide c.cxs c.cys c.craw) (length c.cxs) 0

-- ---- every number of a file is a byte

abbrev Bytes : List ℕ → Type 0
Bytes l = (i : ℕ) → get_or l i 0 < 256

no_bytes : Bytes []
no_bytes i = omega arith

byte_first : (x : ℕ) (l : List ℕ) → x < 256 → Bytes l → Bytes (x ∷ l)
byte_first x l h p zero = h
byte_first x l h p (suc i) = p i

both_bytes : (a b : List ℕ) → Bytes a → Bytes b → Bytes (a ++ b)
both_bytes [] b p q i = q i
both_bytes (x ∷ a) b p q zero = p 0
both_bytes (x ∷ a) b p q (suc i) = both_bytes a b (λ j. p (suc j)) q i

u16-bytes : (n : ℕ) → Bytes (u16_bytes n)
unfolding u16_bytes
u16-bytes n = byte_first (n % 256) (n / 256 % 256 ∷ []) (omega arith) (byte_first (n / 256 % 256) [] (omega arith) no_bytes)

u32-bytes : (n : ℕ) → Bytes (u32_bytes n)
unfolding u32_bytes
u32-bytes n = both_bytes (u16_bytes n) (u16_bytes (n / 65536)) (u16-bytes n) (u16-bytes (n / 65536))

rows-bytes : (f : ℕ → List ℕ) → ((i : ℕ) → Bytes (f i)) → (n i : ℕ) → Bytes (rows f n i)
unfolding rows
rows-bytes f p zero i = no_bytes
rows-bytes f p (suc n) i = both_bytes (f i) (rows f n (suc i)) (p i) (rows-bytes f p n (suc i))

float-bytes : (l : List Float) (i : ℕ) → Bytes (float_at_bytes l i)
unfolding float_at_bytes f32_bytes
float-bytes l i = u32-bytes (to_bits binary32 (get_or l i nan))

colour-bytes : (raw : List Float) (i : ℕ) → Bytes (colour_bytes raw i)
unfolding colour_bytes f32_bytes
colour-bytes raw i =
    let v : ℕ → ℕ = λ k. to_bits binary32 (get_or raw k nan) in
    both_bytes (u32_bytes (v (3 * i))) (u32_bytes (v (3 * i + 1)) ++ u32_bytes (v (3 * i + 2))) (u32-bytes (v (3 * i)))
    (both_bytes (u32_bytes (v (3 * i + 1))) (u32_bytes (v (3 * i + 2))) (u32-bytes (v (3 * i + 1))) (u32-bytes (v (3 * i + 2))))

pair-bytes : (m n : ℕ) (l : List ℕ) → Bytes l → Bytes (u16_bytes m ++ (u16_bytes n ++ l))
pair-bytes m n l p = both_bytes (u16_bytes m) (u16_bytes n ++ l) (u16-bytes m) (both_bytes (u16_bytes n) l (u16-bytes n) p)

module-bytes : (xs ys : List ℤ) (raw : List Float) (i : ℕ) → Bytes (module_bytes xs ys raw i)
unfolding module_bytes i16_bytes
module-bytes xs ys raw i = pair-bytes (bits_of (get_or xs i (pos 0))) (bits_of (get_or ys i (pos 0))) (colour_bytes raw i) (colour-bytes raw i)

cell-bytes : (cxs cys : List ℕ) (raw : List Float) (i : ℕ) → Bytes (cell_bytes cxs cys raw i)
unfolding cell_bytes
cell-bytes cxs cys raw i = pair-bytes (get_or cxs i 0) (get_or cys i 0) (colour_bytes raw i) (colour-bytes raw i)

directory-bytes : (at : ℕ) (l : List (List ℕ)) → Bytes (directory at l)
unfolding directory
directory-bytes at [] = no_bytes
directory-bytes at (a ∷ l) =
    both_bytes (u32_bytes at) (u32_bytes (length a) ++ directory (at + length a) l) (u32-bytes at)
    (both_bytes (u32_bytes (length a)) (directory (at + length a) l) (u32-bytes (length a)) (directory-bytes (at + length a) l))

four_bytes : (v w x y : ℕ) (l : List ℕ) → v < 256 → w < 256 → x < 256 → y < 256 → Bytes l → Bytes (v ∷ w ∷ x ∷ y ∷ l)
four_bytes v w x y l a b c d p = byte_first v (w ∷ x ∷ y ∷ l) a (byte_first w (x ∷ y ∷ l) b (byte_first x (y ∷ l) c (byte_first y l d p)))

settings-bytes : (st : Settings) → st.version < 256 → st.hues < 256 → st.size < 256 → st.mask < 256 → Bytes (settings_bytes st)
unfolding settings_bytes
settings-bytes st h g k l =
    both_bytes (u16_bytes st.side) (st.version ∷ st.hues ∷ st.size ∷ st.mask ∷ u16_bytes st.grid) (u16-bytes st.side)
    (four_bytes st.version st.hues st.size st.mask (u16_bytes st.grid) h g k l (u16-bytes st.grid))

joined_bytes : (t a b c d e : List ℕ) → Bytes t → Bytes a → Bytes b → Bytes c → Bytes d → Bytes e → Bytes (t ++ (a ++ (b ++ (c ++ (d ++ (e ++ []))))))
joined_bytes t a b c d e p q r s u v =
    both_bytes t _ p (both_bytes a _ q (both_bytes b _ r (both_bytes c _ s (both_bytes d _ u (both_bytes e [] v no_bytes)))))

file-bytes : (c : Sheet) (references : List Float) → Fits c references → Bytes (card_file c references)
unfolding card_file sections row
file-bytes c references f =
    let parts = settings_bytes c.settings ∷ floats_bytes c.palette ∷ floats_bytes references ∷ modules_bytes c ∷ cells_bytes c ∷ [] in
    joined_bytes (directory 40 parts) (settings_bytes c.settings) (floats_bytes c.palette) (floats_bytes references) (modules_bytes c) (cells_bytes c) (directory-bytes 40 parts)
    (settings-bytes c.settings f.version f.hues f.size (omega arith)) (rows-bytes (float_at_bytes c.palette) (float-bytes c.palette) (length c.palette) 0)
    (rows-bytes (float_at_bytes references) (float-bytes references) (length references) 0) (rows-bytes (module_bytes c.xs c.ys c.raw) (module-bytes c.xs c.ys c.raw) (length c.xs) 0)
    (rows-bytes (cell_bytes c.cxs c.cys c.craw) (cell-bytes c.cxs c.cys c.craw) (length c.cxs) 0)

-- ---- it is opened

module _ (c : Sheet) (references : List Float) (f : Fits c references) where
  long_all : 40 + length (settings_bytes c.settings) + length (floats_bytes c.palette) + length (floats_bytes references) + length (modules_bytes c) + length (cells_bytes c) ≤ 16384
  long_all = omega (arith, settings-wide c.settings, long-floats c.palette, long-floats references, long-modules c, long-cells c)

  the_pairs : Pairs (written c references) 8 (4 * length c.palette) (4 * length references) (16 * length c.xs) (16 * length c.cxs)
  the_pairs =
      let p = pairs (settings_bytes c.settings) (floats_bytes c.palette) (floats_bytes references) (modules_bytes c) (cells_bytes c) long_all in
      let s = settings-wide c.settings in
      let l1 = long-floats c.palette in
      let l2 = long-floats references in
      let l3 = long-modules c in
      let l4 = long-cells c in
      record {
        offset_0 = p.offset_0;
        offset_1 = omega arith;
        offset_2 = omega arith;
        offset_3 = omega arith;
        offset_4 = omega arith;
        length_0 = omega arith;
        length_1 = omega arith;
        length_2 = omega arith;
        length_3 = omega arith;
        length_4 = omega arith;
        whole = omega arith;
      }

  the_settings : settings_at (written c references) 40 ≡ c.settings
  the_settings = settings-at c.settings (floats_bytes c.palette) (floats_bytes references) (modules_bytes c) (cells_bytes c) (omega arith) f.mask f.grid

  small : length (written c references) ≤ 16384
  small = omega (arith, the_pairs.whole)

  -- eight f32 are 32 bytes
  whole-references : 4 * length references % 32 ≡ 0
  whole-references = ap (λ (k : ℕ). k % 32) (eight (length references) f.eights) ∙ thirty_two (length references / 8)
    where
      eight : (n : ℕ) → n % 8 ≡ 0 → 4 * n ≡ 32 * (n / 8)
      eight n h = omega arith

      thirty_two : (q : ℕ) → 32 * q % 32 ≡ 0
      thirty_two q = omega arith

  accepted : malformed 5 (written c references) ≡ false
  accepted =
      let l1 = 4 * length c.palette in
      let l2 = 4 * length references in
      let l3 = 16 * length c.xs in
      let l4 = 16 * length c.cxs in
      well_formed (written c references) c.settings l1 l2 l3 l4 the_pairs small the_settings
      (lengths-good (written c references) c.settings l1 l2 l3 l4 the_pairs small the_settings (omega arith) whole-references (omega arith) (omega arith))
      (side-good (written c references) c.settings l1 l2 l3 l4 the_pairs small the_settings f.side)

  the_card : card_of 5 (written c references) ≡ card_in c references
  the_card =
      card_is (written c references) c.settings (4 * length c.palette) (4 * length references) (16 * length c.xs) (16 * length c.cxs) the_pairs small the_settings
      (length references / 8) (length c.xs) (length c.cxs) (omega arith) (omega arith) (omega arith)

  opened_as : opened 5 (card_file c references) ≡ gives (card_in c references)
  opened_as = ap (opened 5) (is_laid-out c references) ∙ not-refused 5 (written c references) accepted ∙ ap gives the_card

  pub opens : Opens c references
  opens = record { bytes = file-bytes c references f; accepted = opened_as }

-- ---- and read as the card

sheet_same : (c : Sheet) (palette : List Float) (xs ys : List ℤ) (raw : List Float) (cxs cys : List ℕ) (craw : List Float) →
    palette ≡ c.palette → xs ≡ c.xs → ys ≡ c.ys → raw ≡ c.raw → cxs ≡ c.cxs → cys ≡ c.cys → craw ≡ c.craw → sheet c.settings palette xs ys raw cxs cys craw ≡ c
sheet_same c palette xs ys raw cxs cys craw e f g h k l m = rw (e, f, g, h, k, l, m)

abbrev header : Sheet → List Float → List ℕ
header c references = directory 40 (settings_bytes c.settings ∷ floats_bytes c.palette ∷ floats_bytes references ∷ modules_bytes c ∷ cells_bytes c ∷ [])

module _ (c : Sheet) (references : List Float) where
  abbrev to_palette : List ℕ
  to_palette = header c references ++ settings_bytes c.settings

  abbrev to_references : List ℕ
  to_references = to_palette ++ floats_bytes c.palette

  abbrev to_modules : List ℕ
  to_modules = to_references ++ floats_bytes references

  abbrev to_cells : List ℕ
  to_cells = to_modules ++ modules_bytes c

  palette_at : length to_palette ≡ 48
  palette_at =
      omega (arith, length-append (header c references) (settings_bytes c.settings), settings-wide c.settings, forty (settings_bytes c.settings) (floats_bytes c.palette) (floats_bytes references) (modules_bytes c) (cells_bytes c))

  references_at : length to_references ≡ 48 + 4 * length c.palette
  references_at = omega (arith, length-append to_palette (floats_bytes c.palette), palette_at, long-floats c.palette)

  modules_at : length to_modules ≡ 48 + 4 * length c.palette + 4 * length references
  modules_at = omega (arith, length-append to_references (floats_bytes references), references_at, long-floats references)

  cells_at : length to_cells ≡ 48 + 4 * length c.palette + 4 * length references + 16 * length c.xs
  cells_at = omega (arith, length-append to_modules (modules_bytes c), modules_at, long-modules c)

  palette_lies : Lies 4 (float_at_bytes c.palette) (length c.palette) (written c references) 48
  palette_lies =
      lie 4 (float_at_bytes c.palette) (float-wide c.palette) (length c.palette) 48 (written c references) to_palette (floats_bytes references ++ (modules_bytes c ++ (cells_bytes c ++ [])))
      (second (header c references) (settings_bytes c.settings) (floats_bytes c.palette) (floats_bytes references) (modules_bytes c) (cells_bytes c)) palette_at

  references-lie : Lies 4 (float_at_bytes references) (length references) (written c references) (card_in c references).references.at
  references-lie =
      lie 4 (float_at_bytes references) (float-wide references) (length references) (card_in c references).references.at (written c references) to_references (modules_bytes c ++ (cells_bytes c ++ []))
      (third (header c references) (settings_bytes c.settings) (floats_bytes c.palette) (floats_bytes references) (modules_bytes c) (cells_bytes c)) references_at

  modules-lie : Lies 16 (module_bytes c.xs c.ys c.raw) (length c.xs) (written c references) (card_in c references).modules.at
  modules-lie =
      lie 16 (module_bytes c.xs c.ys c.raw) (module_wide c.xs c.ys c.raw) (length c.xs) (card_in c references).modules.at (written c references) to_modules (cells_bytes c ++ [])
      (fourth (header c references) (settings_bytes c.settings) (floats_bytes c.palette) (floats_bytes references) (modules_bytes c) (cells_bytes c)) modules_at

  cells-lie : Lies 16 (cell_bytes c.cxs c.cys c.craw) (length c.cxs) (written c references) (card_in c references).cells.at
  cells-lie =
      lie 16 (cell_bytes c.cxs c.cys c.craw) (cell-wide c.cxs c.cys c.craw) (length c.cxs) (card_in c references).cells.at (written c references) to_cells []
      (fifth (header c references) (settings_bytes c.settings) (floats_bytes c.palette) (floats_bytes references) (modules_bytes c) (cells_bytes c)) cells_at

module _ (c : Sheet) (references : List Float) (f : Fits c references) (t : Typed c references) where
  abbrev s : List ℕ
  s = written c references

  abbrev m : ℕ
  m = (card_in c references).modules.at

  abbrev n : ℕ
  n = (card_in c references).cells.at

  the_sheet : sheet_of (written c references) (card_in c references) ≡ c
  unfolding sheet_of
  the_sheet =
      let module-is = module_bytes c.xs c.ys c.raw in
      let cell-is = cell_bytes c.cxs c.cys c.craw in
      let ms = modules-lie c references in
      let cs = cells-lie c references in
      sheet_same c _ _ _ _ _ _ _
      (floats_are c.palette t.palette s 48 (palette_lies c references) (2 + 8 * c.settings.hues) (sym f.palette))
      (positions_are module-is c.raw t.raw (length c.xs) s m ms c.xs 0 m t.xs (λ j. module_x c.xs c.ys c.raw j (t.xs j)) (omega arith) (omega arith) refl)
      (positions_are module-is c.raw t.raw (length c.xs) s m ms c.ys 2 (m + 2) t.ys (λ j. module_y c.xs c.ys c.raw j (t.ys j)) refl (omega arith) f.ys)
      (colours_are module-is c.raw t.raw (length c.xs) s m ms (module-colours c.raw t.raw c.xs c.ys) f.raw)
      (coordinates_are cell-is c.craw t.craw (length c.cxs) s n cs c.cxs 0 n (λ j. cell_x c.cxs c.cys c.craw j (t.cxs j)) (omega arith) (omega arith) refl)
      (coordinates_are cell-is c.craw t.craw (length c.cxs) s n cs c.cys 2 (n + 2) (λ j. cell_y c.cxs c.cys c.craw j (t.cys j)) refl (omega arith) f.cys)
      (colours_are cell-is c.craw t.craw (length c.cxs) s n cs (cell-colours c.craw t.craw c.cxs c.cys) f.craw)

  the_references : references_of (written c references) (card_in c references) ≡ references
  unfolding references_of
  the_references = floats_are references t.of_references s (card_in c references).references.at (references-lie c references) (8 * (length references / 8)) (omega (arith, f.eights))

  the_plain : Plain (written c references) (card_in c references)
  the_plain =
      record {
        mask = omega (arith, mask_in c.settings (floats_bytes c.palette) (floats_bytes references) (modules_bytes c) (cells_bytes c), f.mask);
        palette = λ i h. floats-plain c.palette t.palette s 48 (palette_lies c references) i (omega (arith, f.palette));
        of_references = λ i h. floats-plain references t.of_references s (card_in c references).references.at (references-lie c references) i (omega (arith, f.eights));
        raw = colours-plain (module_bytes c.xs c.ys c.raw) c.raw t.raw (length c.xs) s m (modules-lie c references) (module-colours c.raw t.raw c.xs c.ys);
        craw = colours-plain (cell_bytes c.cxs c.cys c.craw) c.craw t.craw (length c.cxs) s n (cells-lie c references) (cell-colours c.craw t.craw c.cxs c.cys);
      }

  in_file : sheet_of (card_file c references) (card_in c references) ≡ c
  in_file = ap (λ (l : List ℕ). sheet_of l (card_in c references)) (is_laid-out c references) ∙ the_sheet

  references_in_file : references_of (card_file c references) (card_in c references) ≡ references
  references_in_file = ap (λ (l : List ℕ). references_of l (card_in c references)) (is_laid-out c references) ∙ the_references

  text_of_file : card_text (card_file c references) ≡ fit_text c references
  text_of_file = read_as (card_file c references) (card_in c references) c references (opened_as c references f) in_file references_in_file

  pub returned : Returned c references
  returned = record { same_sheet = in_file; same_references = references_in_file; text = text_of_file; plain = rw (is_laid-out c references) the_plain }
