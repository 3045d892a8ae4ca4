-- The chroma scores that scoring leaves, by their places in the chroma list, cells and ring modules alike: each turn of its loops writes the places of one entry and keeps those of the earlier ones.
-- Assumes nothing.
use mathlib.Core.Path.{◌≡◌, refl, sym, ◌∙◌}
use mathlib.Core.Logic.{⊎_elim}
use mathlib.Core.Bool.{Bool, true, false, cond}
use mathlib.Core.List.{List}
use Prim.Native.Nat.{ℕ, suc, ◌+◌, ◌-◌, ◌*◌, ◌≤◌, ◌<◌}
use native.Mathlib.Nat.{eq-or-lt_of_le, suc-mul, mul-le-mul_right, le_trans, le_of_eq}
use native.Mathlib.Omega.{arith}
use borrow.Author.Tests.{lt-ltb, le-ltb}
use lib.Dec.{ltb, eqb}
use lib.ListN.{length, get_or, length-set}
use lib.Seq.{get_or-set_same, get_or-set_other}
use lib.Ieee.{Float, nan}
use Rattle.loops.proofs.Laws.{for_up_to}
use Rattle.limits.specs.Chroma.{chroma_on, symbol_bits, chroma_entries}
use Rattle.layout.specs.declared.Layout.{Layout}
use Rattle.color.specs.declared.Linear.{Linear}
use Rattle.color.specs.Color.{linear_to_lab}
use Rattle.modulate.specs.declared.Cell.{Cell}
use Rattle.modulate.specs.declared.Cell.TheVariants.{Unmasked, At}
use Rattle.stats.specs.declared.ChannelStats.{ChannelStats}
use Rattle.stats.specs.Noise.{reliability}
use Rattle.scores.specs.Score.{bit_scores, chroma_score, put_score, put_scores, write_entry, write_cell, write_cells, write_ring, write_rings, ring_chroma, chroma_written}

-- ---- the chroma scores

-- one entry's q scores, from place `at` on
module _ (bits : List Float) (weight : Float) (at : ℕ) (chroma : List Float) where
  record Put (i : ℕ) (s : List Float) : Type 0 where
    long : length s ≡ length chroma
    done : (b : ℕ) → b < i → get_or s (at + b) nan ≡ chroma_score (get_or bits b nan) weight
    kept : (j : ℕ) → j < at → get_or s j nan ≡ get_or chroma j nan

  put_next : (i : ℕ) (s : List Float) → at + i < length chroma → Put i s → Put (suc i) (put_score bits weight at i s)
  unfolding put_score
  put_next i s h p =
      record {
        long = length-set s (at + i) _ ∙ p.long;
        done = λ b q. ⊎_elim (λ (e : b ≡ i). rw e (get_or-set_same s (at + i) (chroma_score (get_or bits i nan) weight) nan (omega (arith, p.long)))) (λ (u : b < i). get_or-set_other s (at + i) (at + b) _ nan (λ e. omega arith) ∙ p.done b u) (eq-or-lt_of_le (let z : b ≤ i = omega arith in z));
        kept = λ j q. get_or-set_other s (at + i) j _ nan (λ e. omega arith) ∙ p.kept j q;
      }

  put : (q : ℕ) → at + q ≤ length chroma → Put q (put_scores bits weight q at chroma)
  put q h =
      for_up_to Put (put_score bits weight at) q 0 chroma (omega arith) (record { long = refl; done = λ b l. absurd (omega arith); kept = λ j l. refl }) (λ i l r s p. put_next i s (omega arith) p)

-- the entries in turn: `cell` and `colour` by the entry's place in the chroma list
module _ (n : ChannelStats) (palette : List Float) (hues : ℕ) (cell : ℕ → Cell) (colour : ℕ → Linear) (chroma : List Float) where
  -- score b of entry e
  abbrev pub entry_score : ℕ → ℕ → Float
  entry_score e b = chroma_score (get_or (bit_scores n palette hues (cell e) (linear_to_lab (colour e))) b nan) (reliability n (linear_to_lab (colour e)) palette hues)

  -- k entries are written
  pub record Filled (k : ℕ) (s : List Float) : Type 0 where
    pub long : length s ≡ length chroma
    pub done : (e : ℕ) → e < k → (b : ℕ) → b < symbol_bits hues → get_or s (e * symbol_bits hues + b) nan ≡ entry_score e b

  fill-next : (k : ℕ) (s : List Float) → k * symbol_bits hues + symbol_bits hues ≤ length chroma → Filled k s → Filled (suc k) (write_entry n palette hues (cell k) (colour k) k s)
  unfolding write_entry
  fill-next k s h p =
      let q = put (bit_scores n palette hues (cell k) (linear_to_lab (colour k))) (reliability n (linear_to_lab (colour k)) palette hues) (k * symbol_bits hues) s (symbol_bits hues) (omega (arith, p.long)) in
      record {
        long = q.long ∙ p.long;
        done = λ e l b r. ⊎_elim (λ (z : e ≡ k). rw z (q.done b r)) (λ (u : e < k). q.kept (e * symbol_bits hues + b) (omega (arith, suc-mul e (symbol_bits hues), mul-le-mul_right (symbol_bits hues) u)) ∙ p.done e u b r) (eq-or-lt_of_le (let z : e ≤ k = omega arith in z));
      }

-- the cells, then, at cell size 1, the ring modules
module _ (layout : Layout) (n : ChannelStats) (palette : List Float) (modules : ℕ → Linear) (m : ℕ) (cxs cys : List ℕ) (cells : ℕ → Linear) (chroma : List Float) where
  abbrev hues : ℕ
  hues = layout.hues

  abbrev grid : ℕ
  grid = layout.grid

  abbrev pub cell_of : ℕ → Cell
  cell_of e = cond (ltb e (length cxs)) (At (get_or cxs e 0) (get_or cys e 0)) Unmasked

  abbrev pub colour_of : ℕ → Linear
  colour_of e = cond (ltb e (length cxs)) (cells e) (modules (grid + (e - length cxs)))

  abbrev Done : ℕ → List Float → Type 0
  Done = Filled n palette hues cell_of colour_of chroma

  room : (k long : ℕ) → suc k * symbol_bits hues ≤ long → k * symbol_bits hues + symbol_bits hues ≤ long
  room k long h = le_trans (le_of_eq (sym (suc-mul k (symbol_bits hues)))) h

  cell-next : (i : ℕ) (s : List Float) → i < length cxs → length cxs * symbol_bits hues ≤ length chroma → Done i s → Done (suc i) (write_cell n palette hues cxs cys cells i s)
  unfolding write_cell
  cell-next i s h l p =
      let t = lt-ltb i (length cxs) h in
      let q = fill-next n palette hues cell_of colour_of chroma i s (room i (length chroma) (le_trans (mul-le-mul_right (symbol_bits hues) h) l)) p in
      rw t at q

  cells-done : length cxs * symbol_bits hues ≤ length chroma → Done (length cxs) (write_cells n palette hues cxs cys cells (length cxs) chroma)
  cells-done l =
      for_up_to Done (write_cell n palette hues cxs cys cells) (length cxs) 0 chroma (omega arith) (record { long = refl; done = λ e h. absurd (omega arith) }) (λ i q r s p. cell-next i s r l p)

  ring-next : (i : ℕ) (s : List Float) → grid ≤ i → i < m → (length cxs + (m - grid)) * symbol_bits hues ≤ length chroma → Done (length cxs + (i - grid)) s → Done (length cxs + (suc i - grid)) (write_ring n palette hues (length cxs) grid modules i s)
  unfolding write_ring
  ring-next i s g h l p =
      let e = length cxs + (i - grid) in
      let t = le-ltb e (length cxs) (omega arith) in
      let back : grid + (e - length cxs) ≡ i = omega arith in
      let more : suc e ≡ length cxs + (suc i - grid) = omega arith in
      let u : suc e ≤ length cxs + (m - grid) = omega arith in
      let q = fill-next n palette hues cell_of colour_of chroma e s (room e (length chroma) (le_trans (mul-le-mul_right (symbol_bits hues) u) l)) p in
      rw (← more) (rw (t, back) at q)

  rings-done : (s : List Float) → grid ≤ m → (length cxs + (m - grid)) * symbol_bits hues ≤ length chroma → Done (length cxs) s → Done (length cxs + (m - grid)) (write_rings n palette hues (length cxs) grid modules m s)
  rings-done s g l p =
      for_up_to (λ i s. Done (length cxs + (i - grid)) s) (write_ring n palette hues (length cxs) grid modules) m grid s g (rw start p) (λ i q r s p. ring-next i s q r l p)
    where
      start : length cxs + (grid - grid) ≡ length cxs
      start = omega arith

  by_size : (b : Bool) → grid ≤ m → (length cxs + cond b (m - grid) 0) * symbol_bits hues ≤ length chroma →
      Done (length cxs + cond b (m - grid) 0) (cond b (write_rings n palette hues (length cxs) grid modules m (write_cells n palette hues cxs cys cells (length cxs) chroma)) (write_cells n palette hues cxs cys cells (length cxs) chroma))
  by_size true g l =
      rings-done (write_cells n palette hues cxs cys cells (length cxs) chroma) g l (cells-done (le_trans (mul-le-mul_right (symbol_bits hues) (less (length cxs) (m - grid))) l))
    where
      less : (a b : ℕ) → a ≤ a + b
      less a b = omega arith
  by_size false g l = rw nought (cells-done (rw nought at l))
    where
      nought : length cxs + 0 ≡ length cxs
      nought = omega arith

  -- with chroma on, every entry of the chroma list
  pub chroma-done : chroma_on hues ≡ true → grid ≤ m → chroma_entries (length cxs) (m - grid) layout.size * symbol_bits hues ≤ length chroma →
      Filled n palette hues cell_of colour_of chroma (chroma_entries (length cxs) (m - grid) layout.size) (chroma_written layout n palette modules m cxs cys cells chroma)
  unfolding chroma_written ring_chroma chroma_entries
  chroma-done on g l = rw on (by_size (eqb layout.size 1) g l)
