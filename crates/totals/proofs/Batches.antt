-- Totals of two batches add, whatever the order and the split, since sums of whole numbers do; and the totals of fit cards stay in their limits, since each score's parts are at most
-- 1,310,720. Assumes nothing.
use mathlib.Core.Path.{◌≡◌, refl, sym, ap, ap₂, ◌∙◌}
use mathlib.Core.Bool.{Bool, true, false}
use mathlib.Core.List.{List, [], ◌∷◌, ◌++◌, Permᴰ}
use Prim.Native.Nat.{ℕ, suc, ◌+◌, ◌*◌, ◌^◌, ◌≤◌, ◌<◌}
use native.Mathlib.Nat.{add_assoc, add_comm, zero-add, add-zero}
use native.Mathlib.Numerals.{add-one}
use native.Mathlib.Omega.{arith}
use lib.ListN.{length, get_or, take, length-append}
use lib.Seq.{take-suc, take_all, length-take-le, get_or-take}
use lib.Ieee.{Float, nan}
use Rattle.loops.proofs.Laws.{any_up-false}
use Rattle.totals.specs.declared.Totals.{Totals}
use Rattle.totals.specs.Score.{unfit, undecided, under, parts_of}
use Rattle.totals.specs.Batch.{totals, nothing, plus, one, count, sum_of, of_card, of_cards, AddUp, add_score, Room, Good, unfit_at, FitCard}
use Rattle.totals.proofs.Score.{parts-most}

-- ---- plus: any order, any split

pub plus_comm : (a b : Totals) → plus a b ≡ plus b a
plus_comm a b =
    rw (
      add_comm a.cards b.cards,
      add_comm a.modules b.modules,
      add_comm a.undecided b.undecided,
      add_comm a.under b.under,
      add_comm a.sum b.sum,
    )

pub plus_assoc : (a b c : Totals) → plus (plus a b) c ≡ plus a (plus b c)
plus_assoc a b c =
    rw (
      add_assoc a.cards b.cards c.cards,
      add_assoc a.modules b.modules c.modules,
      add_assoc a.undecided b.undecided c.undecided,
      add_assoc a.under b.under c.under,
      add_assoc a.sum b.sum c.sum,
    )

pub nothing-plus : (a : Totals) → plus nothing a ≡ a
nothing-plus a = rw (zero-add a.cards, zero-add a.modules, zero-add a.undecided, zero-add a.under, zero-add a.sum)

pub batches-add : (xs ys : List (List Float)) → of_cards (xs ++ ys) ≡ plus (of_cards xs) (of_cards ys)
unfolding of_cards
batches-add [] ys = sym (nothing-plus (of_cards ys))
batches-add (x ∷ xs) ys = ap (plus (of_card x)) (batches-add xs ys) ∙ sym (plus_assoc (of_card x) (of_cards xs) (of_cards ys))

-- wherever a card stands
pub card_anywhere : (xs ys : List (List Float)) (c : List Float) → plus (of_cards (xs ++ ys)) (of_card c) ≡ of_cards (xs ++ c ∷ ys)
unfolding of_cards
card_anywhere [] ys c = plus_comm (of_cards ys) (of_card c)
card_anywhere (x ∷ xs) ys c = plus_assoc (of_card x) (of_cards (xs ++ ys)) (of_card c) ∙ ap (plus (of_card x)) (card_anywhere xs ys c)

-- two cards may change places
cards-swap : (x y : List Float) (t : Totals) → plus (of_card x) (plus (of_card y) t) ≡ plus (of_card y) (plus (of_card x) t)
cards-swap x y t = sym (plus_assoc (of_card x) (of_card y) t) ∙ ap (λ (u : Totals). plus u t) (plus_comm (of_card x) (of_card y)) ∙ plus_assoc (of_card y) (of_card x) t

any_order : {xs ys : List (List Float)} → Permᴰ xs ys → of_cards xs ≡ of_cards ys
unfolding of_cards
any_order Permᴰ.nil = refl
any_order (Permᴰ.cons e q) = ap₂ (λ (c : List Float) (t : Totals). plus (of_card c) t) e (any_order q)
any_order (Permᴰ.swap {a} {b} {a'} {b'} {l} e g) =
    cards-swap a b (of_cards l) ∙ ap₂ (λ (y x : List Float). plus (of_card y) (plus (of_card x) (of_cards l))) g e
any_order (Permᴰ.trans q r) = any_order q ∙ any_order r

pub add_up : AddUp
add_up = record { split = batches-add; any_order = λ xs ys q. any_order q }

-- ---- a score more

count_append : (p : Float → Bool) (xs ys : List Float) → count p (xs ++ ys) ≡ count p xs + count p ys
unfolding count
count_append p [] ys = sym (zero-add (count p ys))
count_append p (x ∷ xs) ys = ap (λ (n : ℕ). one (p x) + n) (count_append p xs ys) ∙ sym (add_assoc (one (p x)) (count p xs) (count p ys))

sum_append : (xs ys : List Float) → sum_of (xs ++ ys) ≡ sum_of xs + sum_of ys
unfolding sum_of
sum_append [] ys = sym (zero-add (sum_of ys))
sum_append (x ∷ xs) ys = ap (λ (n : ℕ). parts_of x + n) (sum_append xs ys) ∙ sym (add_assoc (parts_of x) (sum_of xs) (sum_of ys))

count_one : (p : Float → Bool) (v : Float) → count p (v ∷ []) ≡ one (p v)
unfolding count
count_one p v = add-zero (one (p v))

sum_one : (v : Float) → sum_of (v ∷ []) ≡ parts_of v
unfolding sum_of
sum_one v = add-zero (parts_of v)

-- s, and the modules of these scores
abbrev pub after : Totals → List Float → Totals
after s l = totals s.cards (s.modules + length l) (s.undecided + count undecided l) (s.under + count under l) (s.sum + sum_of l)

one_more : (a n m k : ℕ) → n ≡ m + k → a + n ≡ a + m + k
one_more a n m k e = omega arith

after_one : (s : Totals) (xs : List Float) (v : Float) → after s (xs ++ v ∷ []) ≡ add_score v (after s xs)
unfolding add_score
after_one s xs v =
    rw (
      one_more s.modules (length (xs ++ v ∷ [])) (length xs) 1 (length-append xs (v ∷ [])),
      one_more s.undecided (count undecided (xs ++ v ∷ [])) (count undecided xs) (one (undecided v)) (count_append undecided xs (v ∷ []) ∙ ap (λ (n : ℕ). count undecided xs + n) (count_one undecided v)),
      one_more s.under (count under (xs ++ v ∷ [])) (count under xs) (one (under v)) (count_append under xs (v ∷ []) ∙ ap (λ (n : ℕ). count under xs + n) (count_one under v)),
      one_more s.sum (sum_of (xs ++ v ∷ [])) (sum_of xs) (parts_of v) (sum_append xs (v ∷ []) ∙ ap (λ (n : ℕ). sum_of xs + n) (sum_one v)),
    )

-- ---- what accepted scores add up to

count_most : (p : Float → Bool) (l : List Float) → count p l ≤ length l
unfolding count
count_most p [] = omega arith
count_most p (v ∷ vs) = let h = count_most p vs in let k = bit (p v) in omega arith
  where
    bit : (b : Bool) → one b ≤ 1
    bit true = omega arith
    bit false = omega arith

sum_most : (l : List Float) → ((j : ℕ) → j < length l → unfit (get_or l j nan) ≡ false) → sum_of l ≤ 1310720 * length l
unfolding sum_of
sum_most [] f = omega arith
sum_most (v ∷ vs) f =
    let h = sum_most vs (λ j q. f (suc j) (omega arith)) in
    let k = parts-most v (f 0 (omega arith)) in
    omega arith

pub card-good : (luma : List Float) → FitCard luma → Good (of_card luma)
unfolding of_card
card-good luma f =
    record {
      cards = omega arith;
      modules = omega (arith, f.short);
      undecided = count_most undecided luma;
      under = count_most under luma;
      sum = sum_most luma (any_up-false (unfit_at luma) (length luma) f.scores);
    }

-- ---- the loop over a card's scores

-- where it begins
pub record Begun (luma : List Float) (s : Totals) : Type 0 where
  pub fit : FitCard luma
  pub modules : s.modules < 2 ^ 37
  pub undecided : s.undecided < 2 ^ 37
  pub under : s.under < 2 ^ 37
  pub sum : s.sum < 2 ^ 58

pub begun : (t : Totals) (luma : List Float) → Good t → t.cards < 65535 → FitCard luma → Begun luma (totals (t.cards + 1) t.modules t.undecided t.under t.sum)
begun t luma g c f =
    record { fit = f; modules = omega arith; undecided = omega arith; under = omega arith; sum = omega arith }

pub none_yet : (s : Totals) → s ≡ after s []
unfolding count sum_of
none_yet s = rw (add-zero s.modules, add-zero s.undecided, add-zero s.under, add-zero s.sum)

module _ (luma : List Float) (s₀ s : Totals) (i : ℕ) where
  pub room : Begun luma s₀ → s ≡ after s₀ (take i luma) → i < length luma → Room s
  room b e h =
      let l = take i luma in
      let n : length l ≡ i = length-take-le i luma (omega arith) in
      let u = count_most undecided l in
      let w = count_most under l in
      let p = sum_most l (λ j q. rw (get_or-take i luma j nan (omega arith)) (any_up-false (unfit_at luma) (length luma) b.fit.scores j (omega arith))) in
      let k = b.fit.short in
      rw e (record { modules = omega arith; undecided = omega arith; under = omega arith; sum = omega arith })

  pub turned : (r : Totals) → s ≡ after s₀ (take i luma) → r ≡ add_score (get_or luma i nan) s → i < length luma → r ≡ after s₀ (take (i + 1) luma)
  turned r e f h =
      f ∙ ap (add_score (get_or luma i nan)) e ∙ sym (after_one s₀ (take i luma) (get_or luma i nan))
      ∙ ap (after s₀) (sym (take-suc luma i nan h) ∙ ap (λ (k : ℕ). take k luma) (sym (add-one i)))

  pub fits-there : Begun luma s₀ → i < length luma → unfit (get_or luma i nan) ≡ false
  fits-there b h = any_up-false (unfit_at luma) (length luma) b.fit.scores i h

pub card-summed : (t s : Totals) (luma : List Float) (i : ℕ) → s ≡ after (totals (t.cards + 1) t.modules t.undecided t.under t.sum) (take i luma) → length luma ≤ i → s ≡ plus t (of_card luma)
unfolding of_card
card-summed t s luma i e h = e ∙ ap (after (totals (t.cards + 1) t.modules t.undecided t.under t.sum)) (take_all i luma h)
