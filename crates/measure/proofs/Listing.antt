-- A list in its room, on the way: what is listed, and what is left to list from i on, are the whole. Assumes nothing.
use mathlib.Core.Path.{◌≡◌, refl, sym, ap, ◌∙◌}
use mathlib.Core.Bool.{Bool, true, false, cond}
use mathlib.Core.List.{List, [], ◌∷◌, ◌++◌, map, append_assoc, append-nil}
use Prim.Native.Nat.{ℕ, suc, ◌+◌, ◌*◌, ◌-◌, ◌≤◌, ◌<◌}
use native.Mathlib.Omega.{arith}
use native.Mathlib.Numerals.{add-one}
use lib.ListN.{length, get_or, set, take, length-set}
use lib.Dec.{ltb}
use lib.Seq.{take-suc-set, take-set-le}
use lib.Ieee.{Float, nan}
use borrow.Author.Tests.{ltb-true, ltb-false, lt-ltb, le-ltb}
use Rattle.measure.specs.declared.Form.{Form}
use Rattle.measure.specs.Measure.{picked}
use Rattle.measure.specs.Columns.{marked, picked_in, formed, Listed, listed, list_entry}
use Rattle.measure.proofs.Lists.{picked-begin, picked-done, picked-turn}

abbrev pub mark_in : ℕ → Float → Float → List Float → ℕ → Bool
mark_in n lo hi t i = marked lo hi (get_or t (2 * n + i) nan)

abbrev pub left_in : ℕ → ℕ → Float → Float → List Float → ℕ → List Float
left_in n at lo hi t i = picked (n - i) i (mark_in n lo hi t) (λ j. get_or t (at + j) nan)

-- k are listed before i: with what is left they are `whole`, and `total` of them
pub record Listing (n at : ℕ) (lo hi : Float) (form : Form) (t whole : List Float) (total i k : ℕ) (s : List Float) : Type 0 where
  pub long : length s ≡ n
  pub room : total ≤ n
  pub list : take k s ++ map (formed form) (left_in n at lo hi t i) ≡ whole
  pub count : k + length (left_in n at lo hi t i) ≡ total

module _ {n at : ℕ} {lo hi : Float} {form : Form} where
  pub list-begin : (t : List Float) (k : ℕ) (s : List Float) → length s ≡ n → k + length (picked_in n at lo hi t) ≤ n
      → Listing n at lo hi form t (take k s ++ map (formed form) (picked_in n at lo hi t)) (k + length (picked_in n at lo hi t)) 0 k s
  list-begin t k s l h =
      let e = picked-begin (mark_in n lo hi t) (λ j. get_or t (at + j) nan) n in
      record {
        long = l;
        room = h;
        list = ap (λ (xs : List Float). take k s ++ map (formed form) xs) e;
        count = ap (λ (xs : List Float). k + length xs) e;
      }

  module _ {t whole : List Float} {total i k : ℕ} {s : List Float} (inv : Listing n at lo hi form t whole total i k s) where
    pub list-upto : k ≤ n
    list-upto = let c = inv.count in let r = inv.room in omega arith

    pub list-long : length s ≡ n
    list-long = inv.long

    -- where i is listed
    next : i < n → mark_in n lo hi t i ≡ true → left_in n at lo hi t i ≡ get_or t (at + i) nan ∷ left_in n at lo hi t (suc i)
    next h m = picked-turn (mark_in n lo hi t) (λ j. get_or t (at + j) nan) n i h ∙ rw m

    -- where it is not
    skip : i < n → mark_in n lo hi t i ≡ false → left_in n at lo hi t i ≡ left_in n at lo hi t (suc i)
    skip h m = picked-turn (mark_in n lo hi t) (λ j. get_or t (at + j) nan) n i h ∙ rw m

    room : i < n → mark_in n lo hi t i ≡ true → k < n
    room h m = let e = next h m in let c = inv.count in let r = inv.room in omega (arith, ap length e)

    -- where there is no room left, it is not listed
    full : n ≤ k → i < n → (b : Bool) → mark_in n lo hi t i ≡ b → mark_in n lo hi t i ≡ false
    full g h true m = absurd (omega (arith, room h m))
    full g h false m = m

    in_turn : (v : Float) → i < n → mark_in n lo hi t i ≡ true → v ≡ formed form (get_or t (at + i) nan)
        → Listing n at lo hi form t whole total (suc i) (k + 1) (set s k v)
    in_turn v h m ev =
        let e = next h m in
        let l = inv.long in
        let c = inv.count in
        let r = inv.room in
        let small = room h m in
        let rest = map (formed form) (left_in n at lo hi t (suc i)) in
        let tk : take (k + 1) (set s k v) ≡ take k s ++ (v ∷ []) = rw add-one (take-suc-set s k v (omega arith)) in
        let tl : take k s ++ (v ∷ rest) ≡ whole = rw (ev) (rw e at inv.list) in
        record {
          long = length-set s k v ∙ l;
          room = r;
          list = ap (λ (xs : List Float). xs ++ rest) tk ∙ append_assoc (take k s) (v ∷ []) rest ∙ tl;
          count = omega (arith, ap length e);
        }

    out-turn : i < n → mark_in n lo hi t i ≡ false → Listing n at lo hi form t whole total (suc i) k s
    out-turn h m =
        let e = skip h m in
        record { long = inv.long; room = inv.room; list = rw e at inv.list; count = rw e at inv.count }

    -- what is written at place k is not among the first k
    unseen : (v : Float) → k < n → Listing n at lo hi form t whole total i k (set s k v)
    unseen v h =
        record {
          long = length-set s k v ∙ inv.long;
          room = inv.room;
          list = rw (take-set-le k s k v (omega arith)) inv.list;
          count = inv.count;
        }

    module _ (h : n ≤ i) where
      over : left_in n at lo hi t i ≡ []
      over = picked-done (mark_in n lo hi t) (λ j. get_or t (at + j) nan) n i h

      pub list-taken : take k s ≡ whole
      list-taken = sym (append-nil (take k s)) ∙ rw over at inv.list

      pub list_count : k ≡ total
      list_count = plus k ∙ rw over at inv.count
        where
          plus : (k : ℕ) → k ≡ k + 0
          plus k = omega arith

  module _ {t whole : List Float} {total i k : ℕ} {s : List Float} (inv : Listing n at lo hi form t whole total i k s) where
    -- by the test of the room, and that of the mark
    by_tests : (w b : Bool) (s' : List Float) (k' : ℕ) → i < n → ltb k n ≡ w → mark_in n lo hi t i ≡ b
        → listed s' k' ≡ cond w (listed (set s k (formed form (get_or t (at + i) nan))) (cond b (k + 1) k)) (listed s k)
        → Listing n at lo hi form t whole total (suc i) k' s'
    by_tests true true s' k' h w m e = rw (ap (λ (x : Listed). x.s) e, ap (λ (x : Listed). x.k) e) (in_turn inv _ h m refl)
    by_tests true false s' k' h w m e =
        rw (ap (λ (x : Listed). x.s) e, ap (λ (x : Listed). x.k) e) (out-turn (unseen inv _ (ltb-true k n w)) h m)
    by_tests false b s' k' h w m e =
        rw (ap (λ (x : Listed). x.s) e, ap (λ (x : Listed). x.k) e) (out-turn inv h (full inv (ltb-false k n w) h b m))

    pub list-turn : {s' : List Float} {k' : ℕ} → i < n → listed s' k' ≡ list_entry n at lo hi form t i k s → Listing n at lo hi form t whole total (i + 1) k' s'
    unfolding list_entry
    list-turn {s'} {k'} h e =
        rw add-one
        (by_tests (ltb k n) (mark_in n lo hi t i) s' k' h refl refl e)

-- one step of the code: r is what the test of the mark gave
module _ (n at : ℕ) (lo hi : Float) (form : Form) (t : List Float) (i k : ℕ) (s : List Float) (r : Bool) where
  pub step_in : (v : Float) → r ≡ marked lo hi (get_or t (2 * n + i) nan) → k < n → r ≡ true → v ≡ formed form (get_or t (at + i) nan)
      → listed (set s k v) (k + 1) ≡ list_entry n at lo hi form t i k s
  unfolding list_entry
  step_in v e h u ev = cc (lt-ltb k n h)

  pub step_out : (v : Float) → r ≡ marked lo hi (get_or t (2 * n + i) nan) → k < n → r ≡ false → v ≡ formed form (get_or t (at + i) nan)
      → listed (set s k v) k ≡ list_entry n at lo hi form t i k s
  unfolding list_entry
  step_out v e h u ev = cc (lt-ltb k n h)

pub step_full : (n at : ℕ) (lo hi : Float) (form : Form) (t : List Float) (i k : ℕ) (s : List Float) → n ≤ k → listed s k ≡ list_entry n at lo hi form t i k s
unfolding list_entry
step_full n at lo hi form t i k s h = cc (le-ltb k n h)
