-- Distances are numbers where sentence 7 does not hold: positions and centres lie within 2,048, and each operation keeps such a bound. So
-- `before` is a strict order. Assumes nothing.
use mathlib.Core.Path.{◌≡◌, refl, sym, ◌∙◌, subst}
use mathlib.Core.Logic.{◌⊎◌, inl, inr}
use mathlib.Core.Bool.{Bool, true, false, not, ◌&&◌, ◌||◌}
use mathlib.Core.List.{List}
use Prim.Native.Nat.{ℕ, zero, suc, ◌+◌, ◌*◌, ◌≤◌, ◌<◌}
use native.Mathlib.Omega.{arith}
use borrow.Author.Tests.{ltb-true, ltb-false, leb-false, eqb-true, eqb-false, lt-ltb, le-ltb, eq-eqb}
use lib.Dec.{T, ltb, leb, eqb}
use lib.IntN.{ℤ, pos, negsuc}
use lib.ListN.{get_or}
use lib.Ieee.{Float, nan, inf, fin, Format, binary32, binary64, add, mul, neg, le, lt, eq, round, of_int, fits, is_nan}
use lib.Ieee.Fits.{and_l, and_r}
use lib.Ieee.Scale.{finite}
use Rattle.floatlaws.specs.Value.{hi, lo, Num, lt_is, eq_is}
use Rattle.floatlaws.specs.Near.{round-num}
use Rattle.floatlaws.specs.Order.{Le, of_le, to_le, le_trans, sides, neg-num, widen-num}
use Rattle.floatlaws.proofs.Ops.{int-rounds}
use Rattle.floatlaws.specs.Finite.{Fin, num}
use Rattle.floatlaws.proofs.Mono.{int_mono}
use Rattle.floatlaws.proofs.Exact.{int-exact}
use Rattle.floatlaws.specs.Magnitude.{Within, of_sizes, of_tests, self}
use Rattle.floatlaws.proofs.Magnitude.{add-within, sub_within, mul-within}
use Rattle.loops.proofs.Laws.{any_up-false}
use Rattle.sentences.proofs.Laws.{neither}
use Rattle.places.specs.Places.{outside}
use Rattle.references.specs.References.{bad_position}
use Rattle.near.specs.Order.{Strict}
use Rattle.near.specs.Near.{half, centre, distance, before, misplaced_at, bad_positions}

-- ---- within 2,048

abbrev limit : Float
limit = fin false 1 (pos 11)

closed : (f : Format) (b : Float) → T (fits f b && finite b) → Fin f b
closed f b t = record { fit = and_l (fits f b) (finite b) t; finite = and_r (fits f b) (finite b) t }

limit-fin : (f : Format) → Fin f limit
limit-fin binary32 = closed binary32 limit (unfold fits in tt)
limit-fin binary64 = closed binary64 limit (unfold fits in tt)

-- what a test that holds has on its right is no NaN
right-real : (a x : Float) → T (le a x) → T (not (is_nan x))
unfolding le lt eq is_nan
right-real nan nan t = absurd t
right-real (inf s) nan t = absurd t
right-real (fin s m e) nan t = absurd t
right-real a (inf s) t = tt
right-real a (fin s m e) t = tt

pub passed : (b : Bool) → not b ≡ false → T b
passed true e = tt
passed false e = subst T e tt

whole-limit : (f : Format) → of_int f (pos 2048) ≡ limit
unfolding of_int round
whole-limit binary32 = refl
whole-limit binary64 = refl

sixteen : Fin binary32 (of_int binary32 (pos 16))
unfolding of_int round
sixteen = closed binary32 (of_int binary32 (pos 16)) (unfold fits in tt)

low_end : T (le (neg limit) (neg (of_int binary32 (pos 16))))
unfolding of_int round le neg
low_end = tt

position : (side : ℕ) (v : Float) → T (fits binary32 v) → side ≤ 1024 → bad_position side v ≡ false → Within binary64 limit v
unfolding bad_position
position side v f s e =
    let t = passed (le (neg (of_int binary32 (pos 16))) v && le v (of_int binary32 (pos (side + 16)))) e in
    let l = and_l (le (neg (of_int binary32 (pos 16))) v) (le v (of_int binary32 (pos (side + 16)))) t in
    let r = and_r (le (neg (of_int binary32 (pos 16))) v) (le v (of_int binary32 (pos (side + 16)))) t in
    let n : Num binary32 v = record { fit = f; real = right-real (neg (of_int binary32 (pos 16))) v l } in
    let b = neg-num (num (limit-fin binary32)) in
    let a = neg-num (num sixteen) in
    let u : Le binary32 (of_int binary32 (pos (side + 16))) limit = rw (← whole-limit binary32) (int_mono binary32 (side + 16) 2048 (omega arith)) in
    of_tests (limit-fin binary64) tt (widen-num n)
    (to_le b n (le_trans (of_le b a low_end) (of_le a n l)))
    (to_le n (num (limit-fin binary32)) (le_trans (of_le n (int-rounds binary32 (side + 16)).num r) u))

-- ---- centres

whole : (n : ℕ) → n ≤ 2048 → Within binary64 limit (of_int binary64 (pos n))
whole n h =
    let u : Le binary64 (of_int binary64 (pos n)) limit = rw (← whole-limit binary64) (int_mono binary64 n 2048 h) in
    of_sizes (limit-fin binary64) tt (int-rounds binary64 n).num (sides u).0 (omega (arith, (int-exact binary64 n (omega arith)).1))

below : (n : ℕ) → n ≤ 5 → Within binary64 limit (of_int binary64 (negsuc n))
unfolding of_int round
below zero h = of_tests (limit-fin binary64) tt (round-num binary64 true 1 1) (unfold le neg in tt) (unfold le in tt)
below (suc zero) h = of_tests (limit-fin binary64) tt (round-num binary64 true 2 1) (unfold le neg in tt) (unfold le in tt)
below (suc (suc zero)) h = of_tests (limit-fin binary64) tt (round-num binary64 true 3 1) (unfold le neg in tt) (unfold le in tt)
below (suc (suc (suc zero))) h = of_tests (limit-fin binary64) tt (round-num binary64 true 4 1) (unfold le neg in tt) (unfold le in tt)
below (suc (suc (suc (suc zero)))) h = of_tests (limit-fin binary64) tt (round-num binary64 true 5 1) (unfold le neg in tt) (unfold le in tt)
below (suc (suc (suc (suc (suc zero))))) h = of_tests (limit-fin binary64) tt (round-num binary64 true 6 1) (unfold le neg in tt) (unfold le in tt)
below (suc (suc (suc (suc (suc (suc n)))))) h = absurd (omega arith)

ring : (side : ℕ) (z : ℤ) → side ≤ 1024 → outside side 6 z ≡ false → Within binary64 limit (of_int binary64 z)
unfolding outside
ring side (pos n) s e = whole n (omega (arith, leb-false (side + 6) n (neither false (leb (side + 6) n) e).1))
ring side (negsuc n) s e = below n (ltb-false 5 n (neither (ltb 5 n) false e).0)

half-within : Within binary64 half half
unfolding half round
half-within = self (closed binary64 half (unfold fits in tt)) tt

centred : (side : ℕ) (z : ℤ) → side ≤ 1024 → outside side 6 z ≡ false → Within binary64 (add binary64 limit half) (centre z)
unfolding centre half round
centred side z s e = add-within (ring side z s e) half-within (unfold add in tt)

-- ---- distances

module _ (xy : List Float) (side n : ℕ) (x y : ℤ) (good : (i : ℕ) → T (fits binary32 (get_or xy i nan))) (s : side ≤ 1024)
    (p : bad_positions side xy n ≡ false) (ox : outside side 6 x ≡ false) (oy : outside side 6 y ≡ false) where
  placed : (i : ℕ) → i < n → misplaced_at side xy i ≡ false
  placed i h = any_up-false (misplaced_at side xy) n p i h

  pub number : (i : ℕ) → i < n → Num binary64 (distance xy (centre x) (centre y) i)
  unfolding distance misplaced_at half round
  number i h =
      let q = neither (bad_position side (get_or xy (2 * i) nan)) (bad_position side (get_or xy (2 * i + 1) nan)) (placed i h) in
      let dx = sub_within (position side (get_or xy (2 * i) nan) (good (2 * i)) s q.0) (centred side x s ox) (unfold add in tt) in
      let dy = sub_within (position side (get_or xy (2 * i + 1) nan) (good (2 * i + 1)) s q.1) (centred side y s oy) (unfold add in tt) in
      num (add-within (mul-within dx dx (unfold add mul in tt)) (mul-within dy dy (unfold add mul in tt)) (unfold add mul in tt)).is

-- ---- the order of two distances, then of two places

abbrev tested : ℕ → ℕ → ℕ → ℕ → Bool
tested a b i j = ltb a b || (eqb a b && ltb i j)

of_test : (a b i j : ℕ) → tested a b i j ≡ true → (a < b) ⊎ ((a ≡ b) × (i < j))
of_test a b i j h = by (ltb a b) (eqb a b) refl refl h
  where
    by : (s t : Bool) → ltb a b ≡ s → eqb a b ≡ t → s || (t && ltb i j) ≡ true → (a < b) ⊎ ((a ≡ b) × (i < j))
    by true t d e h = inl (ltb-true a b d)
    by false true d e h = inr (eqb-true a b e, ltb-true i j h)
    by false false d e h = let z : ◌≡◌ {A = ℕ} 0 1 = cc in absurd (omega arith)

to_test : (a b i j : ℕ) → (a < b) ⊎ ((a ≡ b) × (i < j)) → tested a b i j ≡ true
to_test a b i j (inl h) = rw (lt-ltb a b h)
to_test a b i j (inr h) = let e = h.0 in rw (le-ltb a b (omega arith), eq-eqb a b e, lt-ltb i j h.1)

not_test : (a b i j : ℕ) → tested a b i j ≡ false → (b < a) ⊎ ((a ≡ b) × (j ≤ i))
not_test a b i j h = by (ltb a b) (eqb a b) refl refl h
  where
    by : (s t : Bool) → ltb a b ≡ s → eqb a b ≡ t → s || (t && ltb i j) ≡ false → (b < a) ⊎ ((a ≡ b) × (j ≤ i))
    by true t d e h = let z : ◌≡◌ {A = ℕ} 0 1 = cc in absurd (omega arith)
    by false true d e h = inr (eqb-true a b e, ltb-false i j h)
    by false false d e h = let w = eqb-false a b e in let v = ltb-false a b d in inl (omega arith)

through : (a b c d e f i j k : ℕ) → (a + d < b + c) ⊎ ((a + d ≡ b + c) × (i < j)) → (b + f < e + d) ⊎ ((b + f ≡ e + d) × (j < k)) → (a + f < e + c) ⊎ ((a + f ≡ e + c) × (i < k))
through a b c d e f i j k (inl h) (inl l) = inl (omega arith)
through a b c d e f i j k (inl h) (inr l) = let u = l.0 in inl (omega arith)
through a b c d e f i j k (inr h) (inl l) = let u = h.0 in inl (omega arith)
through a b c d e f i j k (inr h) (inr l) = let u = h.0 in let v = l.0 in let w = h.1 in let x = l.1 in inr (omega arith, omega arith)

module _ (xy : List Float) (cx cy : Float) (n : ℕ) (number : (i : ℕ) → i < n → Num binary64 (distance xy cx cy i)) where
  abbrev up : ℕ → ℕ
  up i = hi binary64 (distance xy cx cy i)

  abbrev down : ℕ → ℕ
  down i = lo binary64 (distance xy cx cy i)

  is : (i j : ℕ) → i < n → j < n → before xy cx cy i j ≡ tested (up i + down j) (up j + down i) i j
  unfolding before
  is i j h l = rw (lt_is (number i h) (number j l), eq_is (number i h) (number j l)) refl

  first : (i j : ℕ) → i < n → j < n → before xy cx cy i j ≡ true → (up i + down j < up j + down i) ⊎ ((up i + down j ≡ up j + down i) × (i < j))
  first i j h l e = of_test (up i + down j) (up j + down i) i j (sym (is i j h l) ∙ e)

  pub strict : Strict (before xy cx cy) n
  strict =
      record {
        through = λ i j k h l m p q.
            is i k h m
            ∙ to_test (up i + down k) (up k + down i) i k
            (through (up i) (up j) (down i) (down j) (up k) (down k) i j k (first i j h l p) (first j k l m q));
        other = λ i j h l d f.
            is j i l h
            ∙ to_test (up j + down i) (up i + down j) j i
            (turned (up i + down j) (up j + down i) i j d (not_test (up i + down j) (up j + down i) i j (sym (is i j h l) ∙ f)));
        never = λ i h p. never (up i + down i) i (first i i h h p);
      }
    where
      turned : (a b i j : ℕ) → (i ≡ j → ⊥) → (b < a) ⊎ ((a ≡ b) × (j ≤ i)) → (b < a) ⊎ ((b ≡ a) × (j < i))
      turned a b i j d (inl h) = inl h
      turned a b i j d (inr h) = inr (sym h.0, less (eqb i j) refl)
        where
          less : (x : Bool) → eqb i j ≡ x → j < i
          less true e = absurd (d (eqb-true i j e))
          less false e = let w = eqb-false i j e in let v = h.1 in omega arith

      never : (a i : ℕ) → (a < a) ⊎ ((a ≡ a) × (i < i)) → ⊥
      never a i (inl h) = omega arith
      never a i (inr h) = let v = h.1 in omega arith
