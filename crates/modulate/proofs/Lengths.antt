-- What sentence 5 says of a call's lengths where it does not hold. Assumes nothing.
use mathlib.Core.Path.{◌≡◌}
use mathlib.Core.Bool.{true, false, not}
use mathlib.Core.List.{List}
use Prim.Native.Nat.{ℕ, ◌+◌, ◌≤◌}
use borrow.Author.Tests.{ltb-false, eqb-true, not-false}
use lib.Dec.{ltb, eqb}
use lib.IntN.{ℤ}
use lib.ListN.{length}
use Rattle.sentences.proofs.Laws.{neither}
use Rattle.limits.specs.Chroma.{chroma_on, chroma_length, ring_modules}
use Rattle.layout.specs.declared.Layout.{Layout}
use Rattle.layout.specs.Groups.{Paired}
use Rattle.modulate.specs.Score.{bad_luma_lengths}
use Rattle.modulate.specs.Draw.{entries_of, short_bits, short_hues, bad_draw_lengths}

equal : (a b : ℕ) → not (eqb a b) ≡ false → a ≡ b
equal a b h = eqb-true a b (not-false (eqb a b) h)

pub luma-lengths : (xs ys luma : ℕ) → bad_luma_lengths xs ys luma ≡ false → (xs ≡ ys) × (xs ≤ luma)
unfolding bad_luma_lengths
luma-lengths xs ys luma h =
    let p = neither (not (eqb xs ys)) (ltb luma xs) h in
    (equal xs ys p.0, ltb-false luma xs p.1)

pub record DrawLengths (bits : List ℕ) (l : Layout) (xs ys : List ℤ) (cxs cys levels hues : List ℕ) : Type 0 where
  pub pairs : Paired xs ys cxs cys
  pub bits_in : short_bits (length bits) l (length xs) (length cxs) ≡ false
  pub levels_in : length xs ≤ length levels
  pub hues_in : short_hues (length hues) l (length xs) (length cxs) ≡ false

pub draw_lengths : (bits : List ℕ) (l : Layout) (xs ys : List ℤ) (cxs cys levels hues : List ℕ) → bad_draw_lengths bits l xs ys cxs cys levels hues ≡ false →
    DrawLengths bits l xs ys cxs cys levels hues
unfolding bad_draw_lengths
draw_lengths bits l xs ys cxs cys levels hues h =
    let p = neither (not (eqb (length xs) (length ys))) _ h in
    let q = neither (not (eqb (length cxs) (length cys))) _ p.1 in
    let r = neither (short_bits (length bits) l (length xs) (length cxs)) _ q.1 in
    let s = neither (ltb (length levels) (length xs)) (short_hues (length hues) l (length xs) (length cxs)) r.1 in
    record {
      pairs = record { modules = equal (length xs) (length ys) p.0; cells = equal (length cxs) (length cys) q.0 };
      bits_in = r.0;
      levels_in = ltb-false (length levels) (length xs) s.0;
      hues_in = s.1;
    }

-- the bits that a card has, counted
pub bits_long : (bits : ℕ) (l : Layout) (m c : ℕ) → short_bits bits l m c ≡ false → m + chroma_length l.hues c (ring_modules m l.grid) l.size ≤ bits
unfolding short_bits
bits_long bits l m c h = ltb-false bits (m + chroma_length l.hues c (ring_modules m l.grid) l.size) h

pub hues-long : (hues : ℕ) (l : Layout) (m c : ℕ) → short_hues hues l m c ≡ false → chroma_on l.hues ≡ true → entries_of l m c ≤ hues
unfolding short_hues
hues-long hues l m c h on = ltb-false hues (entries_of l m c) (rw on at h)
