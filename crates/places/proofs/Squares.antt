-- Two positions inside the ring have one square exactly where they are equal: the offset is one to one on -6 .. side + 5, and a row and a column are told by row * n + column. Assumes nothing.
use mathlib.Core.Path.{◌≡◌, refl, ap}
use mathlib.Core.Bool.{Bool, true, false, cond}
use mathlib.Core.List.{List}
use Prim.Native.Nat.{ℕ, ◌+◌, ◌-◌, ◌*◌, ◌≤◌, ◌<◌}
use native.Mathlib.Omega.{arith}
use native.Mathlib.Nat.{mul-le-mul_right, suc-mul, le_refl}
use borrow.Author.Tests.{ltb-true, ltb-false}
use lib.Dec.{ltb}
use lib.ListN.{get_or}
use lib.IntN.{ℤ, pos, negsuc}
use Rattle.loops.proofs.Laws.{cell}
use Rattle.places.specs.Places.{offset, outside, misplaced_at, index_of, square_of}
use Rattle.places.proofs.Placed.{in_ring}
use Rattle.places.proofs.Signed.{inside-ring}

-- ---- one to one

-- an offset that is not past every ring
near : (n : ℕ) → offset (negsuc n) < 4294967295 → (n < 6) × (offset (negsuc n) ≡ 5 - n)
unfolding offset
near n h = by (ltb n 6) refl h
  where
    by : (b : Bool) → ltb n 6 ≡ b → cond b (5 - n) 4294967295 < 4294967295 → (n < 6) × (cond b (5 - n) 4294967295 ≡ 5 - n)
    by true e l = (ltb-true n 6 e, refl)
    by false e l = absurd (omega arith)

above : (n : ℕ) → offset (pos n) ≡ n + 6
unfolding offset
above n = refl

offset_one : (v w : ℤ) → offset v < 4294967295 → offset w < 4294967295 → offset v ≡ offset w → v ≡ w
offset_one (pos m) (pos n) h l e = ap pos (omega (arith, above m, above n))
offset_one (pos m) (negsuc n) h l e = let q = near n l in absurd (omega (arith, above m))
offset_one (negsuc m) (pos n) h l e = let q = near m h in absurd (omega (arith, above n))
offset_one (negsuc m) (negsuc n) h l e = let q = near m h in let r = near n l in ap negsuc (omega arith)

-- row a and column b of rows of n
row-less : (n a b c d : ℕ) → b < n → a < c → a * n + b < c * n + d
row-less n a b c d h l = omega (arith, mul-le-mul_right n l, suc-mul a n)

row_one : (n a b c d : ℕ) → b < n → d < n → a * n + b ≡ c * n + d → a ≡ c
row_one n a b c d h l e = by (ltb a c) (ltb c a) refl refl
  where
    by : (s t : Bool) → ltb a c ≡ s → ltb c a ≡ t → a ≡ c
    by true t p q = absurd (omega (arith, row-less n a b c d h (ltb-true a c p)))
    by false true p q = absurd (omega (arith, row-less n c d a b l (ltb-true c a q)))
    by false false p q = omega (arith, ltb-false a c p, ltb-false c a q)

column_one : (n a b c d : ℕ) → a ≡ c → a * n + b ≡ c * n + d → b ≡ d
column_one n a b c d h e = let f : a * n ≡ c * n = rw h in omega arith

-- `index_of` is one to one inside the ring
module _ (side : ℕ) (x y u v : ℤ) (s : side ≤ 1024) (hx : outside side 6 x ≡ false) (hy : outside side 6 y ≡ false) (hu : outside side 6 u ≡ false)
    (hv : outside side 6 v ≡ false) (e : index_of side x y ≡ index_of side u v) where
  same_row : offset y ≡ offset v
  same_row = row_one (side + 12) (offset y) (offset x) (offset v) (offset u) (inside-ring side x s hx) (inside-ring side u s hu) e

  same_column : offset x ≡ offset u
  same_column = column_one (side + 12) (offset y) (offset x) (offset v) (offset u) same_row e

  pub index_one : (x ≡ u) × (y ≡ v)
  index_one = (
    offset_one x u (omega (arith, inside-ring side x s hx)) (omega (arith, inside-ring side u s hu)) same_column,
    offset_one y v (omega (arith, inside-ring side y s hy)) (omega (arith, inside-ring side v s hv)) same_row,
  )

-- ---- the square of an entry that is not misplaced is one of the grid's
pub square_in : (side g : ℕ) (xs ys : List ℤ) (i : ℕ) → side ≤ 1024 → misplaced_at side g xs ys i ≡ false → square_of side xs ys i < (side + 12) * (side + 12)
square_in side g xs ys i s h =
    let p = in_ring side g i (get_or xs i (pos 0)) (get_or ys i (pos 0)) h in
    cell (inside-ring side (get_or ys i (pos 0)) s p.1) (inside-ring side (get_or xs i (pos 0)) s p.0) (le_refl ((side + 12) * (side + 12)))
