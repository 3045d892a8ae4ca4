-- The list that is defined by insertion is the one that is promised: putting i in its place keeps the others in order, and the first three of a sorted
-- list come before all others. Assumes nothing.
use mathlib.Core.Path.{◌≡◌, refl, sym, ap, ◌∙◌}
use mathlib.Core.Logic.{◌⊎◌, inl, inr}
use mathlib.Core.Bool.{Bool, true, false, cond}
use mathlib.Core.List.{List, [], ◌∷◌, ◌++◌}
use Prim.Native.Nat.{ℕ, zero, suc, ◌+◌, ◌-◌, ◌≤◌, ◌<◌}
use native.Mathlib.Omega.{arith}
use borrow.Author.Tests.{ltb-true, ltb-false, eqb-true, eqb-false}
use lib.Dec.{ltb, eqb}
use lib.ListN.{length, get_or, take, drop, length-append, length-drop, get_or-append}
use lib.Seq.{length-take-le, take_all, get_or-take, get_or-drop, get_or-append-add, ext_get_or}
use Rattle.near.specs.declared.Query.{Query}
use Rattle.near.specs.declared.Query.TheVariants as query
use Rattle.near.specs.Order.{Sorted, Has, Strict}
use Rattle.near.specs.Near.{inserted, listed, queried, written, Among, All, FirstThree, Rest, IsPromised, SameList}

-- ---- i put into l gives p: at the place `slot`, with those before it as they were and the others one further

record Put (b : ℕ → ℕ → Bool) (i : ℕ) (l p : List ℕ) : Type 0 where
  slot : ℕ
  slot_in : slot ≤ length l
  long : length p ≡ suc (length l)
  ahead : (j : ℕ) → j < slot → get_or p j 0 ≡ get_or l j 0
  here : get_or p slot 0 ≡ i
  behind : (j : ℕ) → slot ≤ j → get_or p (suc j) 0 ≡ get_or l j 0
  passed : (j : ℕ) → j < slot → b i (get_or l j 0) ≡ false
  stopped : slot < length l → b i (get_or l slot 0) ≡ true

put_front : (b : ℕ → ℕ → Bool) (i : ℕ) (l : List ℕ) → (0 < length l → b i (get_or l 0 0) ≡ true) → Put b i l (i ∷ l)
put_front b i l f =
    record {
      slot = 0;
      slot_in = omega arith;
      long = refl;
      ahead = λ j h. absurd (omega arith);
      here = refl;
      behind = λ j h. refl;
      passed = λ j h. absurd (omega arith);
      stopped = f;
    }

put-later : (b : ℕ → ℕ → Bool) (i x : ℕ) (l p : List ℕ) → b i x ≡ false → Put b i l p → Put b i (x ∷ l) (x ∷ p)
put-later b i x l p f w =
    record {
      slot = suc w.slot;
      slot_in = omega (arith, w.slot_in);
      long = ap suc w.long;
      ahead = ahead;
      here = w.here;
      behind = behind;
      passed = passed;
      stopped = λ h. w.stopped (omega arith);
    }
  where
    ahead : (j : ℕ) → j < suc w.slot → get_or (x ∷ p) j 0 ≡ get_or (x ∷ l) j 0
    ahead zero h = refl
    ahead (suc j) h = w.ahead j (omega arith)

    behind : (j : ℕ) → suc w.slot ≤ j → get_or (x ∷ p) (suc j) 0 ≡ get_or (x ∷ l) j 0
    behind zero h = absurd (omega arith)
    behind (suc j) h = w.behind j (omega arith)

    passed : (j : ℕ) → j < suc w.slot → b i (get_or (x ∷ l) j 0) ≡ false
    passed zero h = f
    passed (suc j) h = w.passed j (omega arith)

put_in : (b : ℕ → ℕ → Bool) (i : ℕ) (l : List ℕ) → Put b i l (inserted b i l)
unfolding inserted
put_in b i [] = put_front b i [] (λ h. absurd (omega arith))
put_in b i (x ∷ l) = by (b i x) refl (put_in b i l)
  where
    by : (t : Bool) → b i x ≡ t → Put b i l (inserted b i l) → Put b i (x ∷ l) (cond t (i ∷ x ∷ l) (x ∷ inserted b i l))
    by true e w = put_front b i (x ∷ l) (λ h. e)
    by false e w = put-later b i x l (inserted b i l) e w

-- where a place of p stands to the slot, and what stands there
data Where (i : ℕ) (l p : List ℕ) (s j : ℕ) : Type 0 where
  sooner : j < s → get_or p j 0 ≡ get_or l j 0 → Where i l p s j
  slot_at : j ≡ s → get_or p j 0 ≡ i → Where i l p s j
  later : (k : ℕ) → j ≡ suc k → s ≤ k → get_or p j 0 ≡ get_or l k 0 → Where i l p s j

module _ {b : ℕ → ℕ → Bool} {i : ℕ} {l p : List ℕ} (w : Put b i l p) where
  which : (j : ℕ) → Where i l p w.slot j
  which j = by (ltb j w.slot) (eqb j w.slot) refl refl
    where
      past : (j : ℕ) → w.slot < j → Where i l p w.slot j
      past zero h = absurd (omega arith)
      past (suc k) h = later k refl (omega arith) (w.behind k (omega arith))

      by : (x y : Bool) → ltb j w.slot ≡ x → eqb j w.slot ≡ y → Where i l p w.slot j
      by true y e f = sooner (ltb-true j w.slot e) (w.ahead j (ltb-true j w.slot e))
      by false true e f = slot_at (eqb-true j w.slot f) (ap (λ (k : ℕ). get_or p k 0) (eqb-true j w.slot f) ∙ w.here)
      by false false e f = let u = ltb-false j w.slot e in let v = eqb-false j w.slot f in past j (omega arith)

  -- what holds of i and of each of l
  put-each : (P : ℕ → Type 0) → P i → ((j : ℕ) → j < length l → P (get_or l j 0)) → (j : ℕ) → j < length p → P (get_or p j 0)
  put-each P q f j h = go (which j)
    where
      go : Where i l p w.slot j → P (get_or p j 0)
      go (sooner u e) = rw e (f j (omega (arith, w.slot_in)))
      go (slot_at u e) = rw e q
      go (later k u s e) = rw e (f k (omega (arith, w.long)))

  put-new : Has (length p) p i
  put-new = record { place = w.slot; inside = omega (arith, w.slot_in, w.long); is = w.here }

  put-old : {k : ℕ} → Has (length l) l k → Has (length p) p k
  put-old {k} g = by (ltb g.place w.slot) refl
    where
      by : (x : Bool) → ltb g.place w.slot ≡ x → Has (length p) p k
      by true e =
          let u = g.inside in
          record { place = g.place; inside = omega (arith, w.long); is = w.ahead g.place (ltb-true g.place w.slot e) ∙ g.is }
      by false e =
          let u = g.inside in
          record { place = suc g.place; inside = omega (arith, w.long); is = w.behind g.place (ltb-false g.place w.slot e) ∙ g.is }

  -- i stands nowhere in l, all of which is below it
  module _ {chosen : ℕ → Bool} {n : ℕ} (r : Strict b n) (hi : i < n) (a : Among b chosen i (length l) l) where
    low : (j : ℕ) → j < length l → get_or l j 0 < i
    low j h = (a.each j h).0

    -- i comes before what stands behind the slot, and after what stands ahead of it
    first : (k : ℕ) → w.slot ≤ k → k < length l → b i (get_or l k 0) ≡ true
    first k s h = by (eqb k w.slot) refl
      where
        by : (x : Bool) → eqb k w.slot ≡ x → b i (get_or l k 0) ≡ true
        by true e = rw (eqb-true k w.slot e) (w.stopped (omega (arith, eqb-true k w.slot e)))
        by false e =
            let v = eqb-false k w.slot e in
            let x = low k h in
            let y = low w.slot (omega arith) in
            r.through i (get_or l w.slot 0) (get_or l k 0) hi (omega arith) (omega arith) (w.stopped (omega arith)) (a.sorted.pairs w.slot k (omega arith) h)

    second : (j : ℕ) → j < w.slot → b (get_or l j 0) i ≡ true
    second j h =
        let x = low j (omega (arith, w.slot_in)) in
        r.other i (get_or l j 0) hi (omega arith) (λ e. omega arith) (w.passed j h)

    put-sorted : Sorted b (length p) p
    put-sorted = record { pairs = λ j k h m. go j k h (omega (arith, w.long)) (which j) (which k) }
      where
        go : (j k : ℕ) → j < k → k < suc (length l) → Where i l p w.slot j → Where i l p w.slot k → b (get_or p j 0) (get_or p k 0) ≡ true
        go j k h m (sooner u e) (sooner v f) = rw (e, f) (a.sorted.pairs j k h (omega (arith, w.slot_in)))
        go j k h m (sooner u e) (slot_at v f) = rw (e, f) (second j u)
        go j k h m (sooner u e) (later y v s f) = rw (e, f) (a.sorted.pairs j y (omega arith) (omega arith))
        go j k h m (slot_at u e) (sooner v f) = absurd (omega arith)
        go j k h m (slot_at u e) (slot_at v f) = absurd (omega arith)
        go j k h m (slot_at u e) (later y v s f) = rw (e, f) (first y s (omega arith))
        go j k h m (later x u s e) (sooner v f) = absurd (omega arith)
        go j k h m (later x u s e) (slot_at v f) = absurd (omega arith)
        go j k h m (later x u s e) (later y v t f) = rw (e, f) (a.sorted.pairs x y (omega arith) (omega arith))

    put-apart : (j k : ℕ) → j < length p → k < length p → get_or p j 0 ≡ get_or p k 0 → j ≡ k
    put-apart j k h m e = go (omega (arith, w.long)) (omega (arith, w.long)) (which j) (which k)
      where
        go : j < suc (length l) → k < suc (length l) → Where i l p w.slot j → Where i l p w.slot k → j ≡ k
        go h m (sooner u f) (sooner v g) = a.once.apart j k (omega (arith, w.slot_in)) (omega (arith, w.slot_in)) (sym f ∙ e ∙ g)
        go h m (sooner u f) (slot_at v g) = let x = low j (omega (arith, w.slot_in)) in absurd (omega arith)
        go h m (sooner u f) (later y v s g) =
            let x = a.once.apart j y (omega (arith, w.slot_in)) (omega arith) (sym f ∙ e ∙ g) in absurd (omega arith)
        go h m (slot_at u f) (sooner v g) = let x = low k (omega (arith, w.slot_in)) in absurd (omega arith)
        go h m (slot_at u f) (slot_at v g) = u ∙ sym v
        go h m (slot_at u f) (later y v s g) = let x = low y (omega arith) in absurd (omega arith)
        go h m (later x u s f) (sooner v g) =
            let z = a.once.apart x k (omega arith) (omega (arith, w.slot_in)) (sym f ∙ e ∙ g) in absurd (omega arith)
        go h m (later x u s f) (slot_at v g) = let z = low x (omega arith) in absurd (omega arith)
        go h m (later x u s f) (later y v t g) =
            let z = a.once.apart x y (omega arith) (omega arith) (sym f ∙ e ∙ g) in omega arith

    put-among : chosen i ≡ true → Among b chosen (suc i) (length p) p
    put-among t =
        record {
          each = put-each (λ (x : ℕ). (x < suc i) × (chosen x ≡ true)) (omega arith, t) (λ j h. (omega (arith, low j h), (a.each j h).1));
          once = record { apart = put-apart };
          sorted = put-sorted;
        }

-- ---- all of them

module _ (b : ℕ → ℕ → Bool) (chosen : ℕ → Bool) (n : ℕ) (r : Strict b n) where
  -- those below i are listed, l of them; i is put among them, or passed over
  module _ (i : ℕ) (l : List ℕ) (h : i < n) (a : All b chosen i (length l) l) where
    taken : chosen i ≡ true → All b chosen (suc i) (length (inserted b i l)) (inserted b i l)
    taken t =
        record {
          among = put-among (put_in b i l) r h a.among t;
          all = λ k u e. by k u e (eqb k i) refl;
        }
      where
        by : (k : ℕ) → k < suc i → chosen k ≡ true → (x : Bool) → eqb k i ≡ x → Has (length (inserted b i l)) (inserted b i l) k
        by k u e true d = rw (eqb-true k i d) (put-new (put_in b i l))
        by k u e false d = let v = eqb-false k i d in put-old (put_in b i l) (a.all k (omega arith) e)

    over : chosen i ≡ false → All b chosen (suc i) (length l) l
    over f =
        record {
          among = record { each = λ j u. (omega (arith, (a.among.each j u).0), (a.among.each j u).1); once = a.among.once; sorted = a.among.sorted };
          all = λ k u e. by k u e (eqb k i) refl;
        }
      where
        by : (k : ℕ) → k < suc i → chosen k ≡ true → (x : Bool) → eqb k i ≡ x → Has (length l) l k
        by k u e true d = let z : ◌≡◌ {A = ℕ} 0 1 = cc (eqb-true k i d) in absurd (omega arith)
        by k u e false d = let v = eqb-false k i d in a.all k (omega arith) e

  listed_below : (i : ℕ) → i ≤ n → All b chosen i (length (listed b chosen i)) (listed b chosen i)
  unfolding listed
  listed_below zero h =
      record {
        among = record {
          each = λ j u. absurd (omega arith);
          once = record { apart = λ j k u v e. absurd (omega arith) };
          sorted = record { pairs = λ j k u v. absurd (omega arith) };
        };
        all = λ k u e. absurd (omega arith);
      }
  listed_below (suc i) h = by (chosen i) refl (listed_below i (omega arith))
    where
      by : (t : Bool) → chosen i ≡ t → All b chosen i (length (listed b chosen i)) (listed b chosen i) → All b chosen (suc i) (length (cond t (inserted b i (listed b chosen i)) (listed b chosen i))) (cond t (inserted b i (listed b chosen i)) (listed b chosen i))
      by true e a = taken i (listed b chosen i) (omega arith) a e
      by false e a = over i (listed b chosen i) (omega arith) a e

  listed_all : All b chosen n (length (listed b chosen n)) (listed b chosen n)
  listed_all = listed_below n (omega arith)

-- ---- the first three of all

module _ {b : ℕ → ℕ → Bool} {chosen : ℕ → Bool} {n : ℕ} (l : List ℕ) (a : All b chosen n (length l) l) where
  -- fewer than four are all of them
  few-three : length l ≤ 3 → FirstThree b chosen n (length l) l
  few-three h = record { among = a.among; most = h; all = λ i u e. inl (a.all i u e) }

  module _ (h : 3 ≤ length l) where
    same : (j : ℕ) → j < 3 → get_or (take 3 l) j 0 ≡ get_or l j 0
    same j u = get_or-take 3 l j 0 u

    more-three : FirstThree b chosen n 3 (take 3 l)
    more-three =
        record {
          among = record {
            each = λ j u. rw (same j u) (a.among.each j (omega arith));
            once = record { apart = λ j k u v e. a.among.once.apart j k (omega arith) (omega arith) (sym (same j u) ∙ e ∙ same k v) };
            sorted = record { pairs = λ j k u v. rw (same j (omega arith), same k v) (a.among.sorted.pairs j k u (omega arith)) };
          };
          most = omega arith;
          all = λ i u e. place i (a.all i u e);
        }
      where
        place : (i : ℕ) → Has (length l) l i → Has 3 (take 3 l) i ⊎ ((◌≡◌ {A = ℕ} 3 3) × ((j : ℕ) → j < 3 → b (get_or (take 3 l) j 0) i ≡ true))
        place i g = by (ltb g.place 3) refl
          where
            by : (x : Bool) → ltb g.place 3 ≡ x → Has 3 (take 3 l) i ⊎ ((◌≡◌ {A = ℕ} 3 3) × ((j : ℕ) → j < 3 → b (get_or (take 3 l) j 0) i ≡ true))
            by true e = let u = ltb-true g.place 3 e in inl (record { place = g.place; inside = u; is = same g.place u ∙ g.is })
            by false e =
                let u = ltb-false g.place 3 e in
                inr (refl, λ j v. rw (same j v, ← g.is) (a.among.sorted.pairs j g.place (omega arith) g.inside))

  first_three : FirstThree b chosen n (length (take 3 l)) (take 3 l)
  first_three = by (ltb 3 (length l)) refl
    where
      by : (x : Bool) → ltb 3 (length l) ≡ x → FirstThree b chosen n (length (take 3 l)) (take 3 l)
      by true e = let u = ltb-true 3 (length l) e in rw (length-take-le 3 l (omega arith)) (more-three (omega arith))
      by false e = let u = ltb-false 3 (length l) e in rw (take_all 3 l u) (few-three u)

-- ---- what each query lists is what is promised of it

pub queried-promised : (b : ℕ → ℕ → Bool) (chosen : ℕ → Bool) (n : ℕ) → Strict b n → (q : Query)
    → IsPromised q b chosen n (length (queried q b chosen n)) (queried q b chosen n)
unfolding IsPromised queried
queried-promised b chosen n r query.Nearest = first_three (listed b chosen n) (listed_all b chosen n r)
queried-promised b chosen n r (query.Within d) = listed_all b chosen n r
queried-promised b chosen n r (query.CutOff c) = listed_all b chosen n r

-- ---- a room whose first m places are the list l, and whose rest stayed, is l and the rest

pub written_is : (m : ℕ) (out after l : List ℕ) → m ≤ length out → SameList m after (length l) l → Rest m out after → after ≡ written l out
written_is m out after l h s w = ext_get_or 0 after (written l out) long (λ j u. by j (ltb j m) refl)
  where
    long : length after ≡ length (l ++ drop (length l) out)
    long = omega (arith, s.count, w.long, length-append l (drop (length l) out), length-drop (length l) out)

    past : (j : ℕ) → m ≤ j → length l + (j - length l) ≡ j
    past j u = omega (arith, s.count)

    by : (j : ℕ) (x : Bool) → ltb j m ≡ x → get_or after j 0 ≡ get_or (l ++ drop (length l) out) j 0
    by j true e =
        let u = ltb-true j m e in
        s.same j u ∙ sym (get_or-append l (drop (length l) out) 0 j (omega (arith, s.count)))
    by j false e =
        let u = ltb-false j m e in
        w.stays j u
        ∙ sym (ap (λ (k : ℕ). get_or out k 0) (past j u))
        ∙ sym (get_or-drop (length l) out (j - length l) 0)
        ∙ sym (get_or-append-add l (drop (length l) out) (j - length l) 0)
        ∙ ap (λ (k : ℕ). get_or (l ++ drop (length l) out) k 0) (past j u)
