-- `modulate::Source::draw_hues` meets its contract: with chroma on each hue stands at its place, with chroma off none is written. Assumes nothing.
use mathlib.Core.Path.{◌≡◌, sym, ap, ◌∙◌}
use mathlib.Core.Bool.{Bool, true, false}
use borrow.Author.Rules.{rules}
use mathlib.Core.List.{List, ◌++◌}
use Prim.Native.Nat.{ℕ, ◌+◌, ◌*◌, ◌≤◌, ◌<◌}
use native.Mathlib.Nat.{mul-le-mul_left, mul-suc}
use native.Mathlib.Omega.{arith}
use lib.ListN.{length, get_or, take, drop}
use lib.Seq.{length-take-le}
use Rattle.limits.specs.Chroma.{chroma_on, symbol_bits, chroma_length}
use Rattle.limits.proofs.Laws.{symbol_bits_few}
use Rattle.layout.specs.declared.Layout.{Layout}
use Rattle.lists.specs.Lists.{replaced}
use Rattle.modulate.specs.Draw.{entries_of, hue_at, hue_at_of, short_bits, short_hues, drawn_hues}
use Rattle.lists.proofs.Front.{front-below, front_written}
use Rattle.modulate.proofs.Lengths.{bits_long, hues-long}
use Rattle.modulate.proofs.Ready.{hues-least, hues-most}
use Rattle.modulate.proofs.Source.draw_hues.Goals as goal

off : (bits : List ℕ) (l : Layout) (m : ℕ) (cxs cys hues : List ℕ) (on : Bool) → on ≡ chroma_on l.hues → on ≡ false → hues ≡ drawn_hues bits l m cxs cys hues
unfolding drawn_hues
off bits l m cxs cys hues on f t = rw (← f, t)

module _ (l : Layout) (m c : ℕ) (hues : List ℕ) (on : Bool) (f : on ≡ chroma_on l.hues) (t : on ≡ true) (h : short_hues (length hues) l m c ≡ false) (count : ℕ) (e : count ≡ entries_of l m c) where
  is_on : chroma_on l.hues ≡ true
  is_on = sym f ∙ t

  room : count ≤ length hues
  room = rw e (hues-long (length hues) l m c h is_on)

  first : count ≡ length (take count hues)
  first = sym (length-take-le count hues room)

  bits_in : (bits j : ℕ) → short_bits bits l m c ≡ false → j < length (take count hues) → m + symbol_bits l.hues * j + symbol_bits l.hues ≤ bits
  unfolding chroma_length
  bits_in bits j g p =
      let q : m + symbol_bits l.hues * count ≤ bits = rw e (bits_long bits l m c g) in
      omega (arith, q, mul-le-mul_left (symbol_bits l.hues) (front-below count j hues room p), mul-suc (symbol_bits l.hues) j)

module _ (bits : List ℕ) (l : Layout) (m : ℕ) (cxs cys hues : List ℕ) (on : Bool) (f : on ≡ chroma_on l.hues) (t : on ≡ true) (h : short_hues (length hues) l m (length cxs) ≡ false)
    (count : ℕ) (e : count ≡ entries_of l m (length cxs)) (s : List ℕ) (j : ℕ) (k : length s ≡ length (take count hues)) (past : length (take count hues) ≤ j) where
  drawn : ((i : ℕ) → i < j → get_or s i 0 ≡ hue_at bits l.hues m cxs cys i) → s ++ drop count hues ≡ drawn_hues bits l m cxs cys hues
  unfolding drawn_hues
  drawn done =
      rw (is_on l m (length cxs) hues on f t h count e)
      (front_written 0 count (hue_at_of bits l.hues m cxs cys) hues s (room l m (length cxs) hues on f t h count e) k j past done ∙ ap (λ (n : ℕ). replaced 0 n (hue_at_of bits l.hues m cxs cys) hues) e)

pub returns-then-not-chroma_on : goal.returns-then-not-chroma_on
returns-then-not-chroma_on c = search (off)

pub slice_bounds-hue-items-end : goal.slice_bounds-hue-items-end
slice_bounds-hue-items-end c = search (room)

pub slice_bounds-hue-items-end-2 : goal.slice_bounds-hue-items-end-2
slice_bounds-hue-items-end-2 c = search (first)

pub hue_at-requires : goal.hue_at-requires
hue_at-requires c = (search (hues-least), search (hues-most), search (symbol_bits_few), search (bits_in), search rules)

pub returns : goal.returns
returns c = drawn _ _ _ _ _ _ _ c.chroma_on.ensures c.if-not-chroma_on.false c.requires.5 _ c.entries-count.ensures _ _ c.loop-j.auto.hue-items c.loop-j-test.false c.loop-j.invariant
