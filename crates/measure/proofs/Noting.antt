-- The columns: each reference's corrected colour, and then its three numbers, stand at its place, and those of no other are written over them; then the roots are taken. So the lists of the columns are those of
-- the references, a mark lying in a list's range exactly where the reference counts for it. Assumes nothing.
use mathlib.Core.Path.{◌≡◌, refl, sym, ap, ◌∙◌}
use mathlib.Core.Logic.{◌≢◌}
use mathlib.Core.Bool.{Bool, true, false, cond, ◌&&◌, false≢true}
use mathlib.Core.List.{List, ◌++◌}
use Prim.Native.Nat.{ℕ, ◌+◌, ◌*◌, ◌-◌, ◌≤◌, ◌<◌}
use native.Mathlib.Decide.{ℕ_discrete}
use native.Mathlib.Omega.{arith}
use lib.ListN.{length, get_or, set, take, drop, length-set, length-drop, get_or-append}
use borrow.Author.Tests.{lt-ltb, le-ltb}
use borrow.Rule.Slice.PartMut.{put_mid, Post-is}
use Rattle.stats.specs.declared.ChannelStats.{ChannelStats}
use Rattle.stats.specs.Noise.{nominal}
use lib.Seq.{length-take-le, get_or-set_same, get_or-set_other, get_or-take, get_or-drop, get_or-append-add, get_or-append_right}
use lib.Ieee.{Float, nan, le, lt, eq, of_bits}
use Rattle.float.specs.Root.{sqrt_of}
use Rattle.color.specs.declared.Linear.{Linear}
use Rattle.color.specs.declared.Lab.{Lab}
use Rattle.color.specs.Color.{linear_to_lab, ab_distance, length2}
use Rattle.illum.specs.declared.IlluminationModel.{IlluminationModel}
use Rattle.measure.specs.declared.Measurement.{Measurement}
use Rattle.measure.specs.Measure.{picked, same_level, at_level, is_light, colourful, corrected_at, corrected_lab, nominal_lab, lightness_at, error_at, for_level, for_level_chroma, level_of, errors_of, level_errors_of, measured_of, measured, held_of, held_count, measurement, bad_corrected}
use Rattle.measure.specs.Columns.{m0, m1, m2, m3, m4, m5, m6, mark_of, mark_for, mark_at, marked, counted, square_of, square_at, noted, noted_at, Noted, Rooted, placed, colour_at, Corrected, Converted, picked_in, level_within, RealSpreads, record_in}
use Rattle.order.specs.Median.{median_of}
use Rattle.references.specs.References.{wild_colours}
use Rattle.measure.proofs.Lists.{picked_same, picked_two}
use Rattle.measure.proofs.Passes.{F32, late, lights-real, errors-real}

abbrev measuring : ChannelStats → ℕ → Measurement
measuring r k = record { noise = r; held = k }

-- ---- three writes at x < y < z
module _ (s : List Float) (x y z : ℕ) (a b c : Float) where
  abbrev pub three : List Float
  three = set (set (set s x a) y b) z c

  pub at_other : (j : ℕ) → j ≢ x → j ≢ y → j ≢ z → get_or three j nan ≡ get_or s j nan
  at_other j p q r = get_or-set_other (set (set s x a) y b) z j c nan r ∙ get_or-set_other (set s x a) y j b nan q ∙ get_or-set_other s x j a nan p

  module _ (h : x < y) (k : y < z) (l : z < length s) where
    pub at_x : get_or three x nan ≡ a
    at_x =
        get_or-set_other (set (set s x a) y b) z x c nan (λ q. omega arith) ∙ get_or-set_other (set s x a) y x b nan (λ q. omega arith) ∙ get_or-set_same s x a nan (omega arith)

    pub at_y : get_or three y nan ≡ b
    at_y = get_or-set_other (set (set s x a) y b) z y c nan (λ q. omega arith) ∙ get_or-set_same (set s x a) y b nan (omega (arith, length-set s x a))

    pub at_z : get_or three z nan ≡ c
    at_z = get_or-set_same (set (set s x a) y b) z c nan (omega (arith, length-set s x a, length-set (set s x a) y b))

module _ {m : IlluminationModel} {palette flat : List Float} {n : ℕ} where
  note_begin : (e : ℕ → Float) (s : List Float) → Noted m palette flat n 0 e s
  note_begin e s = record { l = λ j h. absurd (omega arith); second = λ j h. absurd (omega arith); mark = λ j h. absurd (omega arith) }

  module _ {i : ℕ} {s : List Float} (inv : Noted m palette flat n i (square_at m flat) s) (h : i < n) (l : length s ≡ 4 * n) where
    module _ (a b c : Float) where
      abbrev after : List Float
      after = placed n i a b c s

      kept : (j : ℕ) → j ≢ n + i → j ≢ 2 * n + i → j ≢ 3 * n + i → (v : Float) → get_or s j nan ≡ v → get_or after j nan ≡ v
      kept j p q r v e = at_other s (n + i) (2 * n + i) (3 * n + i) a b c j p q r ∙ e

      l_at : a ≡ counted (mark_at palette flat i) (lightness_at m flat i) → (j : ℕ) → Dec (j ≡ i) → j < i + 1
          → get_or after (n + j) nan ≡ counted (mark_at palette flat j) (lightness_at m flat j)
      l_at ea j (yes q) k = rw q (at_x s (n + i) (2 * n + i) (3 * n + i) a b c (omega arith) (omega arith) (omega arith) ∙ ea)
      l_at ea j (no q) k = kept (n + j) (λ e. q (omega arith)) (λ e. omega arith) (λ e. omega arith) _ (inv.l j (omega arith))

      second_at : b ≡ counted (mark_at palette flat i) (square_at m flat i) → (j : ℕ) → Dec (j ≡ i) → j < i + 1
          → get_or after (2 * n + j) nan ≡ counted (mark_at palette flat j) (square_at m flat j)
      second_at eb j (yes q) k = rw q (at_y s (n + i) (2 * n + i) (3 * n + i) a b c (omega arith) (omega arith) (omega arith) ∙ eb)
      second_at eb j (no q) k = kept (2 * n + j) (λ e. omega arith) (λ e. q (omega arith)) (λ e. omega arith) _ (inv.second j (omega arith))

      mark-at : c ≡ mark_at palette flat i → (j : ℕ) → Dec (j ≡ i) → j < i + 1 → get_or after (3 * n + j) nan ≡ mark_at palette flat j
      mark-at ec j (yes q) k = rw q (at_z s (n + i) (2 * n + i) (3 * n + i) a b c (omega arith) (omega arith) (omega arith) ∙ ec)
      mark-at ec j (no q) k = kept (3 * n + j) (λ e. omega arith) (λ e. omega arith) (λ e. q (omega arith)) _ (inv.mark j (omega arith))

    written : Noted m palette flat n (i + 1) (square_at m flat) (noted_at m palette flat n i s)
    unfolding noted noted_at lightness_at square_at
    written =
        let c = mark_at palette flat i in
        let a = counted c (lightness_at m flat i) in
        let b = counted c (square_at m flat i) in
        record {
          l = λ j k. l_at a b c refl j (ℕ_discrete j i) k;
          second = λ j k. second_at a b c refl j (ℕ_discrete j i) k;
          mark = λ j k. mark-at a b c refl j (ℕ_discrete j i) k;
        }

    note_turn : {s' : List Float} → s' ≡ noted_at m palette flat n i s → Noted m palette flat n (i + 1) (square_at m flat) s'
    note_turn e = rw e written

  note_done : {i : ℕ} {e : ℕ → Float} {s : List Float} → Noted m palette flat n i e s → n ≤ i → Noted m palette flat n n e s
  note_done inv h = record { l = λ j k. inv.l j (omega arith); second = λ j k. inv.second j (omega arith); mark = λ j k. inv.mark j (omega arith) }

-- ---- the corrected colours: a turn writes that of reference i and changes no other

module _ {n i : ℕ} (s : List Float) (h : i < n) (a b c : Float) where
  colour-other : (j : ℕ) → j < n → j ≢ i → colour_at n j (placed n i a b c s) ≡ colour_at n j s
  unfolding colour_at
  colour-other j k q =
      let at = at_other s (n + i) (2 * n + i) (3 * n + i) a b c in
      rw (
        at (n + j) (λ e. q (omega arith)) (λ e. omega arith) (λ e. omega arith),
        at (2 * n + j) (λ e. omega arith) (λ e. q (omega arith)) (λ e. omega arith),
        at (3 * n + j) (λ e. omega arith) (λ e. omega arith) (λ e. q (omega arith)),
      )

  colour_same : length s ≡ 4 * n → (v : Linear) → a ≡ v.r → b ≡ v.g → c ≡ v.b → colour_at n i (placed n i a b c s) ≡ v
  unfolding colour_at
  colour_same l v ea eb ec =
      rw (
        at_x s (n + i) (2 * n + i) (3 * n + i) a b c (omega arith) (omega arith) (omega arith),
        at_y s (n + i) (2 * n + i) (3 * n + i) a b c (omega arith) (omega arith) (omega arith),
        at_z s (n + i) (2 * n + i) (3 * n + i) a b c (omega arith) (omega arith) (omega arith),
        ea,
        eb,
        ec,
      )

module _ {m : IlluminationModel} {flat : List Float} {n : ℕ} where
  pub correct_begin : (s : List Float) → Corrected m flat n 0 0 s
  correct_begin s = record { colour = λ j g k. absurd (omega arith) }

  pub correct_turn : {i : ℕ} {s s' : List Float} (v : Linear) → v ≡ corrected_at m flat i → s' ≡ placed n i v.r v.g v.b s → Corrected m flat n 0 i s → i < n → length s ≡ 4 * n
      → Corrected m flat n 0 (i + 1) s'
  correct_turn {i} {s} v ev e inv h l = rw e (record { colour = λ j g k. at j (ℕ_discrete j i) k })
    where
      at : (j : ℕ) → Dec (j ≡ i) → j < i + 1 → colour_at n j (placed n i v.r v.g v.b s) ≡ corrected_at m flat j
      at j (yes q) k = rw q (colour_same s h v.r v.g v.b l v refl refl refl ∙ ev)
      at j (no q) k = colour-other s h v.r v.g v.b j (omega arith) q ∙ inv.colour j (omega arith) (omega (arith, q))

  pub correct_done : {i : ℕ} {s : List Float} → Corrected m flat n 0 i s → n ≤ i → Corrected m flat n 0 n s
  correct_done inv h = record { colour = λ j g k. inv.colour j g (omega arith) }

-- ---- the conversion: a turn writes the numbers of reference i over its corrected colour

module _ {palette flat : List Float} {n : ℕ} where
  pub convert_begin : (s : List Float) → Converted palette flat n 0 s s
  convert_begin s = record { done = λ m q. note_begin _ s; left = λ m q. q }

  module _ {i : ℕ} {t s s' : List Float} (inv : Converted palette flat n i t s) (h : i < n) (l : length s ≡ 4 * n)
      (e : s' ≡ noted (linear_to_lab (colour_at n i s)) palette flat n i s) (m : IlluminationModel) (q : Corrected m flat n 0 n t) where
    as_noted : s' ≡ noted_at m palette flat n i s
    unfolding noted_at corrected_lab
    as_noted = e ∙ ap (λ (c : Linear). noted (linear_to_lab c) palette flat n i s) ((inv.left m q).colour i (omega arith) h)

    others : Corrected m flat n (i + 1) n s'
    unfolding noted
    others = rw e (record { colour = λ j g k. colour-other s h _ _ _ j k (λ z. omega arith) ∙ (inv.left m q).colour j (omega arith) k })

  pub convert_turn : {i : ℕ} {t s s' : List Float} → s' ≡ noted (linear_to_lab (colour_at n i s)) palette flat n i s → Converted palette flat n i t s → i < n → length s ≡ 4 * n
      → Converted palette flat n (i + 1) t s'
  convert_turn e inv h l = record { done = λ m q. note_turn (inv.done m q) h l (as_noted inv h l e m q); left = λ m q. others inv h l e m q }

  pub convert_done : {i : ℕ} {t s : List Float} → Converted palette flat n i t s → n ≤ i → Converted palette flat n n t s
  convert_done inv h = record { done = λ m q. note_done (inv.done m q) h; left = λ m q. record { colour = λ j g k. absurd (omega arith) } }

-- ---- the roots: a turn takes that of element i of the second column, which was t, and changes nothing else

pub record Rooting (i : ℕ) (t items : List Float) : Type 0 where
  long : length items ≡ length t
  root : (j : ℕ) → j < i → get_or items j nan ≡ sqrt_of (get_or t j nan)
  rest : (j : ℕ) → i ≤ j → get_or items j nan ≡ get_or t j nan

pub root-begin : (t : List Float) → Rooting 0 t t
root-begin t = record { long = refl; root = λ j h. absurd (omega arith); rest = λ j g. refl }

pub root-turn : {i : ℕ} {t items : List Float} (v : Float) → v ≡ sqrt_of (get_or items i nan) → Rooting i t items → i < length items → Rooting (i + 1) t (set items i v)
root-turn {i} {t} {items} v ev inv h =
    record {
      long = length-set items i v ∙ inv.long;
      root = λ j k. at j (ℕ_discrete j i) k;
      rest = λ j g. other j (λ z. omega arith) ∙ inv.rest j (omega arith);
    }
  where
    other : (j : ℕ) → j ≢ i → get_or (set items i v) j nan ≡ get_or items j nan
    other j q = get_or-set_other items i j v nan q

    at : (j : ℕ) → Dec (j ≡ i) → j < i + 1 → get_or (set items i v) j nan ≡ sqrt_of (get_or t j nan)
    at j (yes q) k = rw q (get_or-set_same items i v nan h ∙ ev ∙ ap sqrt_of (inv.rest i (omega arith)))
    at j (no q) k = other j q ∙ inv.root j (omega (arith, q))

pub root-done : {n i : ℕ} {s items : List Float} → Rooting i (take (3 * n - 2 * n) (drop (2 * n) s)) items → length items ≤ i → length s ≡ 4 * n
    → Rooted n n s (put_mid (2 * n) (3 * n - 2 * n) s items)
root-done {n} {i} {s} {items} inv h l =
    rw (Post-is (2 * n) (3 * n) s (omega arith))
    record {
      root = λ j k. within j k ∙ inv.root j (omega (arith, long)) ∙ ap sqrt_of (get_or-take (3 * n - 2 * n) (drop (2 * n) s) j nan (omega arith) ∙ get_or-drop (2 * n) s j nan);
      before = λ j k. get_or-append (take (2 * n) s) (items ++ drop (3 * n) s) nan j (omega (arith, front)) ∙ get_or-take (2 * n) s j nan k;
      after = λ j k. past j k;
    }
  where
    front : length (take (2 * n) s) ≡ 2 * n
    front = length-take-le (2 * n) s (omega arith)

    long : length items ≡ n
    long = inv.long ∙ length-take-le (3 * n - 2 * n) (drop (2 * n) s) (omega (arith, length-drop (2 * n) s)) ∙ omega arith

    within : (j : ℕ) → j < n → get_or (take (2 * n) s ++ (items ++ drop (3 * n) s)) (2 * n + j) nan ≡ get_or items j nan
    within j k =
        ap (λ (m : ℕ). get_or (take (2 * n) s ++ (items ++ drop (3 * n) s)) (m + j) nan) (sym front)
        ∙ get_or-append-add (take (2 * n) s) (items ++ drop (3 * n) s) j nan
        ∙ get_or-append items (drop (3 * n) s) nan j (omega (arith, long))

    past : (j : ℕ) → 2 * n + n ≤ j → get_or (take (2 * n) s ++ (items ++ drop (3 * n) s)) j nan ≡ get_or s j nan
    past j k =
        get_or-append_right (take (2 * n) s) (items ++ drop (3 * n) s) j nan (omega (arith, front))
        ∙ get_or-append_right items (drop (3 * n) s) (j - length (take (2 * n) s)) nan (omega (arith, front, long))
        ∙ get_or-drop (3 * n) s (j - length (take (2 * n) s) - length items) nan
        ∙ ap (λ (m : ℕ). get_or s m nan) (omega (arith, front, long))

root_error : (m : IlluminationModel) (flat : List Float) (j : ℕ) → sqrt_of (square_at m flat j) ≡ error_at m flat j
unfolding error_at ab_distance length2 square_at square_of
root_error m flat j = refl

zero-root : sqrt_of m0 ≡ m0
unfolding sqrt_of of_bits
zero-root = refl

root-counted : (mark v : Float) → sqrt_of (counted mark v) ≡ counted mark (sqrt_of v)
unfolding counted
root-counted mark v = go (eq mark m0)
  where
    go : (b : Bool) → sqrt_of (cond b m0 v) ≡ cond b m0 (sqrt_of v)
    go true = zero-root
    go false = refl

module _ {m : IlluminationModel} {palette flat : List Float} {n : ℕ} where
  pub all_noted : {r s t : List Float} → Rooted n n s t → Converted palette flat n n r s → Corrected m flat n 0 n r → Noted m palette flat n n (error_at m flat) t
  all_noted roots inv q =
      let had = inv.done m q in
      record {
        l = λ j k. roots.before (n + j) (omega arith) ∙ had.l j k;
        second = λ j k. roots.root j k ∙ ap sqrt_of (had.second j k) ∙ root-counted (mark_at palette flat j) (square_at m flat j) ∙ ap (counted (mark_at palette flat j)) (root_error m flat j);
        mark = λ j k. roots.after (3 * n + j) (omega arith) ∙ had.mark j k;
      }

-- ---- a mark lies in a list's range exactly where the reference counts for the list

level-mark : (light a b c : Bool) → cond light (marked m5 m6 (mark_of a b c)) (marked m1 m2 (mark_of a b c)) ≡ (a && same_level light b)
unfolding marked mark_of of_bits le lt eq
level-mark true true true true = refl
level-mark true true true false = refl
level-mark true true false true = refl
level-mark true true false false = refl
level-mark true false true true = refl
level-mark true false true false = refl
level-mark true false false true = refl
level-mark true false false false = refl
level-mark false true true true = refl
level-mark false true true false = refl
level-mark false true false true = refl
level-mark false true false false = refl
level-mark false false true true = refl
level-mark false false true false = refl
level-mark false false false true = refl
level-mark false false false false = refl

colour-mark : (a b c : Bool) → marked m2 m5 (mark_of a b c) ≡ c
unfolding marked mark_of of_bits le lt eq
colour-mark true true true = refl
colour-mark true true false = refl
colour-mark true false true = refl
colour-mark true false false = refl
colour-mark false true true = refl
colour-mark false true false = refl
colour-mark false false true = refl
colour-mark false false false = refl

level-colour-mark : (light a b c : Bool) → cond light (marked m4 m5 (mark_of a b c)) (marked m2 m3 (mark_of a b c)) ≡ (c && same_level light b)
unfolding marked mark_of of_bits le lt eq
level-colour-mark true true true true = refl
level-colour-mark true true true false = refl
level-colour-mark true true false true = refl
level-colour-mark true true false false = refl
level-colour-mark true false true true = refl
level-colour-mark true false true false = refl
level-colour-mark true false false true = refl
level-colour-mark true false false false = refl
level-colour-mark false true true true = refl
level-colour-mark false true true false = refl
level-colour-mark false true false true = refl
level-colour-mark false true false false = refl
level-colour-mark false false true true = refl
level-colour-mark false false true false = refl
level-colour-mark false false false true = refl
level-colour-mark false false false false = refl

-- a mark that is 0 as a number is the 0
zero-mark : (a b c : Bool) → eq (mark_of a b c) m0 ≡ true → mark_of a b c ≡ m0
unfolding mark_of of_bits eq
zero-mark true true true e = absurd (false≢true e)
zero-mark true true false e = absurd (false≢true e)
zero-mark true false true e = absurd (false≢true e)
zero-mark true false false e = absurd (false≢true e)
zero-mark false true true e = absurd (false≢true e)
zero-mark false true false e = refl
zero-mark false false true e = absurd (false≢true e)
zero-mark false false false e = refl

-- ---- the lists of the columns

module _ (palette : List Float) (nominal : Lab) where
  dark-counts : marked m1 m2 (mark_for palette nominal) ≡ for_level false palette nominal
  unfolding mark_for for_level
  dark-counts = level-mark false (at_level palette nominal) (is_light palette nominal) (colourful nominal)

  light-counts : marked m5 m6 (mark_for palette nominal) ≡ for_level true palette nominal
  unfolding mark_for for_level
  light-counts = level-mark true (at_level palette nominal) (is_light palette nominal) (colourful nominal)

  colour-counts : marked m2 m5 (mark_for palette nominal) ≡ colourful nominal
  unfolding mark_for
  colour-counts = colour-mark (at_level palette nominal) (is_light palette nominal) (colourful nominal)

  dark-colour-counts : marked m2 m3 (mark_for palette nominal) ≡ for_level_chroma false palette nominal
  unfolding mark_for for_level_chroma
  dark-colour-counts = level-colour-mark false (at_level palette nominal) (is_light palette nominal) (colourful nominal)

  light-colour-counts : marked m4 m5 (mark_for palette nominal) ≡ for_level_chroma true palette nominal
  unfolding mark_for for_level_chroma
  light-colour-counts = level-colour-mark true (at_level palette nominal) (is_light palette nominal) (colourful nominal)

  -- where the mark is in a list's range, which 0 is not, the numbers are the reference's own
  counts_in : (lo hi v : Float) → marked lo hi m0 ≡ false → marked lo hi (mark_for palette nominal) ≡ true → counted (mark_for palette nominal) v ≡ v
  unfolding counted mark_for
  counts_in lo hi v out h = go (eq mark m0) refl
    where
      mark : Float
      mark = mark_of (at_level palette nominal) (is_light palette nominal) (colourful nominal)

      go : (b : Bool) → eq mark m0 ≡ b → cond b m0 v ≡ v
      go true e = absurd (false≢true (sym out ∙ ap (marked lo hi) (sym (zero-mark (at_level palette nominal) (is_light palette nominal) (colourful nominal) e)) ∙ h))
      go false e = refl

  -- a reference of the dark level is none of the light one
  one_level : for_level false palette nominal ≡ true → for_level true palette nominal ≡ false
  unfolding for_level
  one_level = go (at_level palette nominal) (is_light palette nominal)
    where
      go : (a b : Bool) → (a && same_level false b) ≡ true → (a && same_level true b) ≡ false
      go true true e = sym e
      go true false e = refl
      go false b e = refl

module _ {m : IlluminationModel} {palette flat : List Float} {n : ℕ} {s : List Float} (inv : Noted m palette flat n n (error_at m flat) s) where
  spot : (a j : ℕ) → n + (a + j) ≡ n + a + j
  spot a j = omega arith

  read : (a j b : ℕ) (v : Float) → n + a ≡ b → get_or s (b + j) nan ≡ v → get_or (drop n s) (a + j) nan ≡ v
  read a j b v e h = get_or-drop n s (a + j) nan ∙ ap (λ (k : ℕ). get_or s k nan) (spot a j ∙ ap (λ (k : ℕ). k + j) e) ∙ h

  module _ (at b : ℕ) (e : n + at ≡ b) (f : ℕ → Float) (lo hi : Float) (q : ℕ → Bool)
      (reads : (j : ℕ) → j < n → get_or s (b + j) nan ≡ counted (mark_at palette flat j) (f j)) (out : marked lo hi m0 ≡ false)
      (counts : (j : ℕ) → marked lo hi (mark_at palette flat j) ≡ q j) where
    same_list : picked_in n at lo hi (drop n s) ≡ picked n 0 q f
    same_list =
        picked_same n 0 _ q _ f (λ j a k. ap (marked lo hi) (read (2 * n) j (3 * n) _ (omega arith) (inv.mark j (omega arith))) ∙ counts j)
        (λ j a k t. read at j b _ e (reads j (omega arith)) ∙ counts_in palette (nominal_lab flat j) lo hi (f j) out (counts j ∙ t))

  level-list : (light : Bool) → level_within light n (drop n s) ≡ level_of light m palette flat n
  unfolding marked of_bits le lt eq
  level-list true = same_list 0 n (omega arith) (lightness_at m flat) m5 m6 _ inv.l refl (λ j. light-counts palette (nominal_lab flat j))
  level-list false = same_list 0 n (omega arith) (lightness_at m flat) m1 m2 _ inv.l refl (λ j. dark-counts palette (nominal_lab flat j))

  error_list : (lo hi : Float) (q : ℕ → Bool) → marked lo hi m0 ≡ false → ((j : ℕ) → marked lo hi (mark_at palette flat j) ≡ q j)
      → picked_in n n lo hi (drop n s) ≡ picked n 0 q (error_at m flat)
  error_list lo hi q out counts = same_list n (2 * n) (omega arith) (error_at m flat) lo hi q inv.second out counts

  errors-list : picked_in n n m2 m5 (drop n s) ≡ errors_of m flat n
  unfolding marked of_bits le lt eq
  errors-list = error_list m2 m5 _ refl (λ j. colour-counts palette (nominal_lab flat j))

  level-errors-list : (light : Bool) → cond light (picked_in n n m4 m5 (drop n s)) (picked_in n n m2 m3 (drop n s)) ≡ level_errors_of light m palette flat n
  unfolding marked of_bits le lt eq
  level-errors-list true = error_list m4 m5 _ refl (λ j. light-colour-counts palette (nominal_lab flat j))
  level-errors-list false = error_list m2 m3 _ refl (λ j. dark-colour-counts palette (nominal_lab flat j))

  -- the two levels' lists fit in one column
  pub levels-fit : length (level_within false n (drop n s)) + length (level_within true n (drop n s)) ≤ n
  levels-fit = rw (level-list false, level-list true) (picked_two n 0 _ _ _ _ (λ j. one_level palette (nominal_lab flat j)))

  pub columns-record : record_in palette n (drop n s) ≡ measured_of m palette flat n
  unfolding record_in measured_of
  columns-record = rw (level-list false, level-list true, errors-list, level-errors-list false, level-errors-list true)

  -- no distance that is taken is a NaN, past the sentences
  module _ (h : 8 ≤ n) (single : F32 flat) (colours : wild_colours flat n ≡ false) (corrected : bad_corrected m flat n ≡ false) where
    pub spreads_real : RealSpreads n (median_of (level_within false n (drop n s))) (median_of (level_within true n (drop n s))) (drop n s)
    spreads_real =
        let right = late m flat n h corrected in
        record {
          luma = rw (level-list false, level-list true) (lights-real m flat n single colours right _ _);
          chroma = rw errors-list (errors-real m flat n single colours right _);
          dark = rw (level-errors-list false) (errors-real m flat n single colours right _);
          light = rw (level-errors-list true) (errors-real m flat n single colours right _);
        }

  pub enough : {r : ChannelStats} {k : ℕ} → 8 ≤ n → r ≡ record_in palette n (drop n s) → k ≡ held_of m flat n → measuring r k ≡ measurement m palette flat n
  unfolding measured held_count
  enough h e g = rw (le-ltb n 8 h, e ∙ columns-record, g)

pub too_few : (m : IlluminationModel) (palette flat : List Float) (n : ℕ) (r : ChannelStats) → n < 8 → r ≡ nominal palette → measuring r 0 ≡ measurement m palette flat n
unfolding measured held_count
too_few m palette flat n r h e = rw (lt-ltb n 8 h, e)
