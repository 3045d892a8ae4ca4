-- A square's column and row are the remainder and the quotient of its number, so that the window's tests, which count from 3, are those of the grid's bounds; and each known place puts its sample behind
-- those of the known places before it. Assumes nothing.
use mathlib.Core.Path.{◌≡◌, refl, sym, ap, ◌∙◌, subst, fun_ext}
use mathlib.Core.Bool.{Bool, true, false, cond, not, ◌||◌}
use mathlib.Core.List.{List, [], ◌∷◌, ◌++◌, map, append_assoc, map-append}
use Prim.Native.Nat.{ℕ, zero, suc, ◌+◌, ◌-◌, ◌*◌, ◌/◌, ◌%◌, ◌≤◌, ◌<◌}
use native.Mathlib.Nat.{add-zero}
use native.Mathlib.Omega.{arith}
use borrow.Author.Tests.{leb-true, leb-false, le-ltb, lt-ltb, ltb-false}
use lib.Arith.{digits_div, digits_mod}
use lib.Dec.{ltb, leb}
use lib.IntN.{ℤ, pos, negsuc, sub_ℕ, ◌+ℤ◌, ◌-ℤ◌, +ℤ_assoc, +ℤ_comm}
use lib.ListN.{length, get_or, set, replicate, length-append, length-map}
use lib.Seq.{set-append_seam}
use lib.Ieee.{Float, nan, binary32, is_nan, of_int, round, add, sub, neg}
use Rattle.loops.proofs.Laws.{for_up_to}
use Rattle.sentences.proofs.Laws.{neither}
use Rattle.order.specs.Median.{zero32}
use Rattle.places.specs.Places.{offset, outside, index_of}
use Rattle.color.specs.Color.{fraction}
use Rattle.local.specs.declared.Window.{Window}
use Rattle.refine.specs.Window.{beyond, square, luminance_near, window, away, pushed, sample_at, zeros, window_of}
use Rattle.promises.specs.Window.{square_at, columns, rows, near, position_of, known_below, padded, Holds}

-- ---- which square

inside : (side p : ℕ) → ltb (p - 3) (side + 12) ≡ not (leb (side + 15) p)
inside side p = by (leb (side + 15) p) refl
  where
    by : (b : Bool) → leb (side + 15) p ≡ b → ltb (p - 3) (side + 12) ≡ not b
    by true e = let h = leb-true (side + 15) p e in le-ltb (p - 3) (side + 12) (omega arith)
    by false e = let h = leb-false (side + 15) p e in lt-ltb (p - 3) (side + 12) (omega arith)

either : (c : Bool) (x : Float) → nan ≡ cond (c || true) nan x
either true x = refl
either false x = refl

both : (c d : Bool) (x : Float) → cond (not c) (cond (not d) x nan) nan ≡ cond (c || d) nan x
both true d x = refl
both false true x = refl
both false false x = refl

-- p and q are 3 more than the column and the row
module _ (side : ℕ) (grid : List Float) (p q : ℕ) where
  three-less : square_at (side + 12) grid (sub_ℕ p 3) (sub_ℕ q 3) ≡ cond (beyond side p || beyond side q) nan (square side grid p q)
  unfolding square_at beyond
  three-less = by (ltb p 3) (ltb q 3)
    where
      by : (a b : Bool) → square_at (side + 12) grid (cond a (negsuc (3 - suc p)) (pos (p - 3))) (cond b (negsuc (3 - suc q)) (pos (q - 3)))
          ≡ cond ((a || leb (side + 15) p) || (b || leb (side + 15) q)) nan (square side grid p q)
      by true b = refl
      by false true = either (leb (side + 15) p) (square side grid p q)
      by false false = rw (inside side p, inside side q) (both (leb (side + 15) p) (leb (side + 15) q) (square side grid p q))

sum : (u c : ℕ) → pos u +ℤ (pos c -ℤ pos 3) ≡ sub_ℕ (u + c) 3
sum u c = sym (+ℤ_assoc (pos u) (pos c) (negsuc 2))

module _ (side : ℕ) (grid : List Float) (u v k : ℕ) where
  near_is : near side grid u v k ≡ cond (beyond side (u + k % 7) || beyond side (v + k / 7)) nan (square side grid (u + k % 7) (v + k / 7))
  near_is =
      ap (λ (z : ℤ). square_at (side + 12) grid z (pos v +ℤ rows k)) (sum u (k % 7))
      ∙ ap (square_at (side + 12) grid (sub_ℕ (u + k % 7) 3)) (sum v (k / 7))
      ∙ three-less side grid (u + k % 7) (v + k / 7)

  pub looks_at : u < side + 12 → luminance_near side grid (v * (side + 12) + u) k ≡ near side grid u v k
  unfolding luminance_near
  looks_at h = rw (digits_mod v h, digits_div v h) (sym near_is)

pub middle : (side : ℕ) (grid : List Float) (u v : ℕ) → u < side + 12 → v < side + 12 → near side grid u v 24 ≡ get_or grid (v * (side + 12) + u) nan
unfolding square_at
middle side grid u v h l = rw (add-zero u, add-zero v, lt-ltb u (side + 12) h, lt-ltb v (side + 12) l)

-- ---- around a module

within : (side : ℕ) (v : ℤ) → outside side 6 v ≡ false → offset v < side + 12
unfolding offset outside
within side (pos n) h = omega (arith, leb-false (side + 6) n h)
within side (negsuc n) h =
    let p = neither (ltb 5 n) false h in
    let q : n < 6 = omega (arith, ltb-false 5 n p.0) in
    rw (lt-ltb n 6 q) (omega arith)

six-more : (side : ℕ) (v : ℤ) → outside side 6 v ≡ false → pos (offset v) ≡ v +ℤ pos 6
unfolding offset outside
six-more side (pos n) h = refl
six-more side (negsuc n) h =
    let p = neither (ltb 5 n) false h in
    let q : n < 6 = omega (arith, ltb-false 5 n p.0) in
    let r : 6 - suc n ≡ 5 - n = omega arith in
    cc (le-ltb 6 (suc n) (omega arith), lt-ltb n 6 q)

moved : (side : ℕ) (v c : ℤ) → outside side 6 v ≡ false → pos (offset v) +ℤ c ≡ v +ℤ c +ℤ pos 6
moved side v c h = ap (λ (z : ℤ). z +ℤ c) (six-more side v h) ∙ +ℤ_assoc v (pos 6) c ∙ ap (λ (z : ℤ). v +ℤ z) (+ℤ_comm (pos 6) c) ∙ sym (+ℤ_assoc v c (pos 6))

pub looks_at_position : (side : ℕ) (grid : List Float) (x y : ℤ) (k : ℕ) → outside side 6 x ≡ false → outside side 6 y ≡ false →
    luminance_near side grid (index_of side x y) k ≡ position_of side grid (x +ℤ columns k) (y +ℤ rows k)
looks_at_position side grid x y k h l =
    looks_at side grid (offset x) (offset y) k (within side x h)
    ∙ ap (λ (z : ℤ). square_at (side + 12) grid z (pos (offset y) +ℤ rows k)) (moved side x (columns k) h)
    ∙ ap (square_at (side + 12) grid (x +ℤ columns k +ℤ pos 6)) (moved side y (rows k) l)

-- ---- the samples

-- small whole numbers are subtracted without rounding
exact : (c : ℕ) → c < 7 → away c ≡ of_int binary32 (pos c -ℤ pos 3)
unfolding of_int fraction round add sub neg
exact zero h = refl
exact (suc zero) h = refl
exact (suc (suc zero)) h = refl
exact (suc (suc (suc zero))) h = refl
exact (suc (suc (suc (suc zero)))) h = refl
exact (suc (suc (suc (suc (suc zero))))) h = refl
exact (suc (suc (suc (suc (suc (suc zero)))))) h = refl
exact (suc (suc (suc (suc (suc (suc (suc n))))))) h = absurd (omega arith)

behind : (f : ℕ → Float) (ks : List ℕ) (k n : ℕ) (l : List Float) (a : Float) → length ks < 49 → l ≡ padded f ks → n ≡ length ks → a ≡ f k → set l n a ≡ padded f (ks ++ (k ∷ []))
behind f ks k n l a h el en ea =
    rw (el, en, ea)
    (ap (λ (m : ℕ). set (map f ks ++ replicate m zero32) (length ks) (f k)) room
    ∙ ap (λ (m : ℕ). set (map f ks ++ zero32 ∷ rest) m (f k)) (sym (length-map ks f))
    ∙ set-append_seam (map f ks) zero32 rest (f k)
    ∙ sym (append_assoc (map f ks) (f k ∷ []) rest)
    ∙ ap (λ (m : List Float). m ++ rest) (sym (map-append f ks (k ∷ []))))
  where
    room : 49 - length ks ≡ suc (49 - length (ks ++ (k ∷ [])))
    room = omega (arith, length-append ks (k ∷ []))

    rest : List Float
    rest = replicate (49 - length (ks ++ (k ∷ []))) zero32

few : (y : ℕ → Float) (n : ℕ) → length (known_below y n) ≤ n
unfolding known_below
few y zero = omega arith
few y (suc n) = by (few y n) (is_nan (y n))
  where
    by : length (known_below y n) ≤ n → (b : Bool) → length (cond b (known_below y n) (known_below y n ++ (n ∷ []))) ≤ suc n
    by h true = omega arith
    by h false = omega (arith, length-append (known_below y n) (n ∷ []))

module _ (y : ℕ → Float) (k : ℕ) (l : k < 49) (ks : List ℕ) (w : Window) (h : length ks < 49) (p : Holds y ks w) where
  one_more : Holds y (ks ++ (k ∷ [])) (pushed k (y k) w)
  unfolding pushed
  one_more =
      record {
        count_is = ap (λ (n : ℕ). n + 1) p.count_is ∙ sym (length-append ks (k ∷ []));
        dx_is = behind (λ (j : ℕ). of_int binary32 (columns j)) ks k w.count w.dx (away (k % 7)) h p.dx_is p.count_is (exact (k % 7) (omega arith));
        dy_is = behind (λ (j : ℕ). of_int binary32 (rows j)) ks k w.count w.dy (away (k / 7)) h p.dy_is p.count_is (exact (k / 7) (omega arith));
        y_is = behind y ks k w.count w.y (y k) h p.y_is p.count_is refl;
      }

module _ (side : ℕ) (grid : List Float) (home : ℕ) where
  start : Holds (luminance_near side grid home) (known_below (luminance_near side grid home) 0) (window zeros zeros zeros 0)
  unfolding known_below
  start = record { count_is = refl; dx_is = refl; dy_is = refl; y_is = refl }

  next : (k : ℕ) → k < 49 → (w : Window) → Holds (luminance_near side grid home) (known_below (luminance_near side grid home) k) w
      → Holds (luminance_near side grid home) (known_below (luminance_near side grid home) (suc k)) (sample_at side grid home k w)
  unfolding known_below sample_at
  next k l w p = by (is_nan (luminance_near side grid home k))
    where
      ks : List ℕ
      ks = known_below (luminance_near side grid home) k

      by : (b : Bool) → Holds (luminance_near side grid home) (cond b ks (ks ++ (k ∷ []))) (cond b w (pushed k (luminance_near side grid home k) w))
      by true = p
      by false = one_more (luminance_near side grid home) k l ks w (omega (arith, few (luminance_near side grid home) k)) p

  gathered : Holds (luminance_near side grid home) (known_below (luminance_near side grid home) 49) (window_of side grid home)
  gathered =
      for_up_to (λ (k : ℕ) (w : Window). Holds (luminance_near side grid home) (known_below (luminance_near side grid home) k) w) (sample_at side grid home) 49 0 (window zeros zeros zeros 0) (omega arith) start
      (λ k g l w p. next k l w p)

pub samples : (side : ℕ) (grid : List Float) (u v : ℕ) → u < side + 12 →
    Holds (near side grid u v) (known_below (near side grid u v) 49) (window_of side grid (v * (side + 12) + u))
samples side grid u v h =
    subst (λ (y : ℕ → Float). Holds y (known_below y 49) (window_of side grid (v * (side + 12) + u))) (fun_ext (λ k. looks_at side grid u v k h)) (gathered side grid (v * (side + 12) + u))
