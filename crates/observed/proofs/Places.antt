-- Positions that sentence 7 lets pass are f32 values: they lie from -6 to side + 5, and a side is 1,024 at most. Assumes nothing.
use mathlib.Core.Path.{◌≡◌}
use mathlib.Core.Bool.{false}
use mathlib.Core.List.{List}
use Prim.Native.Nat.{ℕ, ◌+◌, ◌*◌, ◌^◌, ◌≤◌, ◌<◌}
use native.Mathlib.Omega.{arith}
use borrow.Author.Rules.{sfits_of}
use mir.Syntax.{w32}
use mir.Val.{to_z, of_z}
use mir.Facts.{to_z-of_z}
use borrow.Author.Tests.{leb-false, ltb-false}
use lib.Dec.{T, ltb, le→leb, lt→ltb}
use lib.IntN.{ℤ, pos, negsuc}
use lib.Signed.{mag}
use lib.ListN.{length, get_or}
use lib.Ieee.{Float, binary32, in_float}
use Rattle.loops.proofs.Laws.{any_up-false}
use Rattle.sentences.proofs.Laws.{neither}
use Rattle.places.specs.Places.{outside, misplaced_at, bad_places}
use Rattle.places.proofs.Placed.{in_ring}
use Rattle.layout.specs.Groups.{Positions}
use Rattle.observed.specs.Colours.{Exact}
use Rattle.observed.specs.Ready.{Sampled}

below : (side n : ℕ) → side ≤ 1024 → n < side + 6 → n ≤ 2 ^ 24
below side n s h = omega arith

few : (n : ℕ) → n ≤ 5 → n < 2 ^ 24
few n h = omega arith

in-float : (side : ℕ) (v : ℤ) → side ≤ 1024 → outside side 6 v ≡ false → T (in_float binary32 v)
unfolding outside in_float
in-float side (pos n) s h = le→leb n (2 ^ 24) (below side n s (leb-false (side + 6) n h))
in-float side (negsuc n) s h = lt→ltb n (2 ^ 24) (few n (ltb-false 5 n (neither (ltb 5 n) _ h).0))

module _ (side grid : ℕ) (xs ys : List ℤ) (s : side ≤ 1024) (h : bad_places side grid xs ys ≡ false) where
  placed : (i : ℕ) → i < length xs → misplaced_at side grid xs ys i ≡ false
  placed = any_up-false (misplaced_at side grid xs ys) (length xs) h

  pub exact_xs : Exact xs (length xs)
  exact_xs = record { at = λ i l. in-float side (get_or xs i (pos 0)) s (in_ring side grid i (get_or xs i (pos 0)) (get_or ys i (pos 0)) (placed i l)).0 }

  pub exact_ys : Exact ys (length xs)
  exact_ys = record { at = λ i l. in-float side (get_or ys i (pos 0)) s (in_ring side grid i (get_or xs i (pos 0)) (get_or ys i (pos 0)) (placed i l)).1 }

-- a coordinate that the code reads
as_read : (v : ℤ) → T (in_float binary32 v) → mag v < 2 ^ 31 → T (in_float binary32 (to_z w32 (of_z w32 v)))
as_read v t f = rw (to_z-of_z (sfits_of {w = w32} {z = v} f)) t

module _ (xs ys : List ℤ) (raw : List Float) (i : ℕ) (p : Sampled xs ys raw) (h : i < length xs) where
  pub exact_x : mag (get_or xs i (pos 0)) < 2 ^ 31 → T (in_float binary32 (to_z w32 (of_z w32 (get_or xs i (pos 0)))))
  exact_x f = as_read (get_or xs i (pos 0)) (p.xs_exact.at i h) f

  pub exact_y : mag (get_or ys i (pos 0)) < 2 ^ 31 → T (in_float binary32 (to_z w32 (of_z w32 (get_or ys i (pos 0)))))
  exact_y f = as_read (get_or ys i (pos 0)) (p.ys_exact.at i h) f

-- modules in their places, each with a raw colour
pub sampled : (side grid : ℕ) (xs ys : List ℤ) (raw : List Float) → Positions side grid xs ys → 3 * length xs ≤ length raw → Sampled xs ys raw
sampled side grid xs ys raw p h =
    record { pairs = p.pairs; xs_exact = exact_xs side grid xs ys p.side-most p.places-good; ys_exact = exact_ys side grid xs ys p.side-most p.places-good; raw-three = h }

-- a cell's size
pub size_in : (n : ℕ) → n ≤ 16 → T (in_float binary32 (pos n))
unfolding in_float
size_in n h = le→leb n (2 ^ 24) (omega arith)
