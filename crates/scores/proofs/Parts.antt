-- Luma and chroma scores part by part: lightness by Y alone, luma that is not weighted, the entries of ring modules by the cell size, and chroma on or off. Assumes nothing.
use mathlib.Core.Path.{◌≡◌, ◌∙◌}
use mathlib.Core.Bool.{Bool, true, false, cond}
use mathlib.Core.List.{List}
use Prim.Native.Nat.{ℕ, ◌+◌, ◌-◌, ◌*◌, ◌≤◌, ◌<◌}
use native.Mathlib.Nat.{mul_comm, mul-le-mul_right, le_trans, le_of_eq}
use native.Mathlib.Omega.{arith}
use borrow.Author.Tests.{eq-eqb, ne_eqb}
use lib.Dec.{eqb}
use lib.ListN.{length, get_or, take}
use lib.Seq.{length-take-le}
use Rattle.std.proofs.lemmas.List.{get_or-take}
use lib.Ieee.{Float}
use Rattle.loops.proofs.Laws.{for_up_same}
use Rattle.limits.specs.Chroma.{chroma_on, weighted, symbol_bits, ring_modules, chroma_entries, chroma_length}
use Rattle.layout.specs.declared.Layout.{Layout}
use Rattle.color.specs.declared.Linear.{Linear}
use Rattle.color.specs.declared.Xyz.{Xyz}
use Rattle.color.specs.declared.Lab.{Lab}
use Rattle.color.specs.Color.{linear_to_xyz, xyz_to_lab, linear_to_lab}
use Rattle.illum.specs.declared.IlluminationModel.{IlluminationModel}
use Rattle.stats.specs.declared.ChannelStats.{ChannelStats}
use Rattle.observed.specs.Colours.{held_cells}
use Rattle.scores.specs.Score.{luma_score, luma_at, write_lumas, plain_luma, plain_lumas, write_cells, write_rings, ring_chroma, chroma_written, chroma_held}

-- a loop over the first n of a list: where a turn is, what it reads, and that the last one was made
module _ {A : Type 0} (n : ℕ) (l : List A) (i : ℕ) (h : n ≤ length l) where
  pub front_in : i < length (take n l) → i < n
  front_in k = let p = length-take-le n l h in omega arith

  pub front_past : length (take n l) ≤ i → n ≤ i
  front_past k = let p = length-take-le n l h in omega arith

  pub front_read : (d : A) → i < length (take n l) → get_or (take n l) i d ≡ get_or l i d
  front_read d k = get_or-take n l i d (front_in k)

-- the L of an XYZ takes its Y alone
pub by_y : (c : Linear) (q : Xyz) (x z : Float) (lab : Lab) → lab ≡ xyz_to_lab (record { x = x; y = q.y; z = z }) → q ≡ linear_to_xyz c → lab.l ≡ (linear_to_lab c).l
unfolding xyz_to_lab
by_y c q x z lab e h = rw (e, h)

-- luma that is not weighted
pub plain : (hues : ℕ) (w : Bool) → w ≡ weighted hues → (n : ChannelStats) (palette : List Float) (colour : ℕ → Linear) (m : ℕ) (before after : List Float) → w ≡ false → after ≡ plain_lumas n colour m before →
    after ≡ write_lumas n palette hues colour m before
unfolding plain_luma luma_at luma_score
plain hues w ew n palette colour m before after f e = e ∙ for_up_same (plain_luma n colour) (luma_at n palette hues colour) m 0 before (λ j h l s. rw (← ew, f))

-- ---- ring modules

-- the list's length at cell size 1
pub ring_long : (hues cells m grid size lent : ℕ) → size ≡ 1 → chroma_length hues cells (ring_modules m grid) size ≤ lent → (cells + (m - grid)) * symbol_bits hues ≤ lent
unfolding chroma_length chroma_entries
ring_long hues cells m grid size lent e h = rw (mul_comm (cells + (m - grid)) (symbol_bits hues)) (rw (eq-eqb size 1 e) at h)

module _ (l : Layout) (n : ChannelStats) (palette : List Float) (cells : ℕ) (colour : ℕ → Linear) (m : ℕ) (chroma : List Float) where
  pub rings : (after : List Float) → l.size ≡ 1 → after ≡ write_rings n palette l.hues cells l.grid colour m chroma → after ≡ ring_chroma l n palette cells colour m chroma
  unfolding ring_chroma
  rings after e h = rw (eq-eqb l.size 1 e) h

  pub no_rings : (l.size ≡ 1 → ⊥) → chroma ≡ ring_chroma l n palette cells colour m chroma
  unfolding ring_chroma
  no_rings d = rw (ne_eqb l.size 1 d)

-- ---- chroma on or off

-- the cells' entries stand in the list
more : (c r : ℕ) (b : Bool) → c ≤ c + cond b r 0
more c r b = omega arith

pub cells_long : (hues cells ring size long : ℕ) → chroma_length hues cells ring size ≤ long → cells * symbol_bits hues ≤ long
unfolding chroma_length chroma_entries
cells_long hues cells ring size long h =
    le_trans (mul-le-mul_right (symbol_bits hues) (more cells ring (eqb size 1))) (le_trans (le_of_eq (mul_comm (cells + cond (eqb size 1) ring 0) (symbol_bits hues))) h)

module _ (l : Layout) (n : ChannelStats) (palette : List Float) (modules : ℕ → Linear) (m : ℕ) (cxs cys : List ℕ) (cells : ℕ → Linear) (chroma : List Float) (o : Bool) (e : o ≡ chroma_on l.hues) where
  pub chroma_scored : (mid after : List Float) → o ≡ true → mid ≡ write_cells n palette l.hues cxs cys cells (length cxs) chroma → after ≡ ring_chroma l n palette (length cxs) modules m mid →
      after ≡ chroma_written l n palette modules m cxs cys cells chroma
  unfolding chroma_written
  chroma_scored mid after t h k = rw (← e, t, ← h) k

  pub chroma_off : o ≡ false → chroma ≡ chroma_written l n palette modules m cxs cys cells chroma
  unfolding chroma_written
  chroma_off t = rw (← e, t)

module _ (l : Layout) (model : IlluminationModel) (cxs cys : List ℕ) (o : Bool) (e : o ≡ chroma_on l.hues) where
  pub cells_marked : (k : ℕ) → o ≡ true → k ≡ held_cells model l.size cxs cys (length cxs) → k ≡ chroma_held l model cxs cys
  unfolding chroma_held
  cells_marked k t h = rw (← e, t) h

  pub none_marked : o ≡ false → 0 ≡ chroma_held l model cxs cys
  unfolding chroma_held
  none_marked t = rw (← e, t)
