-- The chroma score list of a card file has at most 8 scores a place and at most 1,020 places: a hue takes 32 bytes of the file, so that there are fewer than
-- 2 ^ 9 of them. Assumes nothing.
use mathlib.Core.Path.{◌≡◌, refl}
use mathlib.Core.Bool.{Bool, true, false, cond}
use Prim.Native.Nat.{ℕ, zero, suc, ◌+◌, ◌*◌, ◌/◌, ◌^◌, ◌≤◌, ◌<◌}
use native.Mathlib.Omega.{arith}
use native.Mathlib.Nat.{mul-le-mul, pow-suc, div-lt_iff_lt-mul}
use borrow.Author.Tests.{ltb-true, ltb-false}
use lib.Dec.{ltb, eqb}
use mir.Syntax.{w64}
use mir.Val.{Fits}
use Rattle.limits.specs.Chroma.{log2, chroma_on, symbol_bits, ring_modules, chroma_entries, chroma_length}
use Rattle.limits.proofs.Laws.{log2-small, log2_step}
use Rattle.card.specs.declared.Settings.{Settings}
use Rattle.readout.specs.Sheet.{Few}
use Rattle.readout.specs.Reading.{places_of}

by_half : (q n : ℕ) (b : Bool) → ltb 1 n ≡ b → (1 < n → log2 (n / 2) ≤ q) → log2 n ≤ suc q
by_half q n true e h = let g = ltb-true 1 n e in let l = h g in rw (log2_step n g) (omega arith)
by_half q n false e h = rw (log2-small n (ltb-false 1 n e)) (omega arith)

-- a number below 2 ^ (q + 1) can be halved q times
log2-below : (q n : ℕ) → n < 2 ^ suc q → log2 n ≤ q
log2-below zero n h = rw (log2-small n (omega arith)) (omega arith)
log2-below (suc q) n h = by_half q n (ltb 1 n) refl (λ g. log2-below q (n / 2) ((div-lt_iff_lt-mul (omega arith)).1 (rw (pow-suc 2 (suc q)) at h)))

at_most : (b : Bool) (x n : ℕ) → x ≤ n → cond b x 0 ≤ n
at_most true x n h = h
at_most false x n h = omega arith

bits_below : (k : ℕ) → k ≤ 510 → symbol_bits k ≤ 8
unfolding symbol_bits
bits_below k h = at_most (chroma_on k) (log2 k) 8 (log2-below 8 k (omega arith))

pub entries_below : (c r size : ℕ) → c + r ≤ 1020 → chroma_entries c r size ≤ 1020
unfolding chroma_entries
entries_below c r size h = omega (arith, at_most (eqb size 1) r r (omega arith))

-- of m modules and c cells, r of them ring modules
module _ (s : Settings) (m c r b e : ℕ) (few : Few s m c) (ring : r ≡ ring_modules m s.grid) (entries : e ≡ chroma_entries c r s.size) (bits : b ≡ symbol_bits s.hues) where
  pub is_chroma : b * e ≡ places_of s m c
  unfolding chroma_length
  is_chroma = rw (bits, entries, ring)

  pub product-below : b * e ≤ 8160
  product-below =
      let p : b ≤ 8 = omega (arith, bits_below s.hues few.hues) in
      let q : e ≤ 1020 = omega (arith, entries_below c r s.size (omega arith)) in
      mul-le-mul p q

  pub product-fits : Fits w64 (b * e)
  product-fits = record { fits = omega (arith, product-below) }

-- ---- refinement's grid, of a side of at most 64

pub squares-below : (side : ℕ) → side ≤ 64 → (side + 12) * (side + 12) ≤ 5776
squares-below side h = let g : side + 12 ≤ 76 = omega arith in mul-le-mul g g

pub squares-fit : (side : ℕ) → side ≤ 64 → Fits w64 ((side + 12) * (side + 12))
squares-fit side h = record { fits = omega (arith, squares-below side h) }

-- ---- modules and cells

module _ (s : Settings) (m c : ℕ) (few : Few s m c) where
  pub modules-few : m ≤ 1020
  modules-few = omega arith

  pub few_thrice : 3 * m ≤ 3060
  few_thrice = omega arith

pub ruleset places_are = (is_chroma, product-below, product-fits)
