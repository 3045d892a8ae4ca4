-- The marks add up: each is 0 or 1, and 1 exactly where its reference is live, or nowhere where none is kept; the live ones are the kept ones, and all others were rejected. Assumes nothing.
use mathlib.Core.Path.{◌≡◌, refl, sym, ap, ◌∙◌, subst}
use mathlib.Core.Logic.{◌⊎◌, inl, inr}
use mathlib.Core.Bool.{Bool, true, false, cond}
use mathlib.Core.List.{List}
use Prim.Native.Nat.{ℕ, zero, suc, ◌+◌, ◌≤◌, ◌<◌}
use native.Mathlib.Omega.{arith}
use borrow.Author.Tests.{eqb-true, eqb-false, ne_eqb}
use lib.Dec.{eqb}
use lib.ListN.{length, get_or}
use lib.Ieee.{Float}
use Rattle.loops.specs.Loops.{raise}
use Rattle.loops.proofs.Laws.{for_up_same, for_up-done, for_up_to}
use Rattle.lists.proofs.Laws.{reached}
use Rattle.std.specs.Prelude.{Result, Ok, Err, IfOk}
use Rattle.answers.specs.declared.refusal.Refusal.{Refusal}
use Rattle.illum.specs.declared.IlluminationModel.{IlluminationModel}
use Rattle.illum.specs.Refusals.{model_said}
use Rattle.equations.specs.Live.{is_live, live_count}
use Rattle.fit.specs.Fit.{mark_of, kept_mark, mark_at, marks_of, is_mark, marked, MarksAddUp, Request, Final, final, ran_of, fit_of}
use Rattle.fit.proofs.Counts.{for_up_last}
use Rattle.fit.proofs.Law.{fit-sound, fit-accepted, fit-kept}

-- ---- marks that are 0 or 1 are counted once each

module _ (marks : List ℕ) (n : ℕ) (bit : (i : ℕ) → i < n → (get_or marks i 0 ≡ 0) ⊎ (get_or marks i 0 ≡ 1)) where
  turn : (v i : ℕ) (b : Bool) → eqb (get_or marks i 0) v ≡ b → marked v marks (suc i) ≡ cond b (marked v marks i + 1) (marked v marks i)
  unfolding raise is_mark
  turn v i b e = for_up_last (raise (is_mark v marks)) i 0 ∙ ap (λ (c : Bool). cond c (marked v marks i + 1) (marked v marks i)) e

  counted : (k : ℕ) → k ≤ n → marked 0 marks k + marked 1 marks k ≡ k
  counted zero h = let a = for_up-done (raise (is_mark 0 marks)) 0 0 0 (omega arith) in let b = for_up-done (raise (is_mark 1 marks)) 0 0 0 (omega arith) in omega arith
  counted (suc k) h = by (bit k (omega arith)) (counted k (omega arith))
    where
      by : (get_or marks k 0 ≡ 0) ⊎ (get_or marks k 0 ≡ 1) → marked 0 marks k + marked 1 marks k ≡ k → marked 0 marks (suc k) + marked 1 marks (suc k) ≡ suc k
      by (inl e) before =
          let a = turn 0 k true (ap (λ (x : ℕ). eqb x 0) e) in
          let b = turn 1 k false (ap (λ (x : ℕ). eqb x 1) e) in
          omega arith
      by (inr e) before =
          let a = turn 0 k false (ap (λ (x : ℕ). eqb x 0) e) in
          let b = turn 1 k true (ap (λ (x : ℕ). eqb x 1) e) in
          omega arith

-- ---- the marks of n references, count of which the model counts as kept

module _ (count : ℕ) (live : List Float) where
  mark-bit : (i : ℕ) → (kept_mark count live i ≡ 0) ⊎ (kept_mark count live i ≡ 1)
  unfolding mark_of
  mark-bit i = by (eqb count 0) (is_live live i)
    where
      by : (a b : Bool) → (◌≡◌ {A = ℕ} (cond a 0 (cond b 1 0)) 0) ⊎ (◌≡◌ {A = ℕ} (cond a 0 (cond b 1 0)) 1)
      by true b = inl refl
      by false true = inr refl
      by false false = inl refl

  mark-none : count ≡ 0 → (i : ℕ) → kept_mark count live i ≡ 0
  unfolding mark_of
  mark-none z i = ap (λ (k : ℕ). cond (eqb k 0) 0 (cond (is_live live i) 1 0)) z

  mark-live : (count ≡ 0 → ⊥) → (i : ℕ) → eqb (kept_mark count live i) 1 ≡ is_live live i
  unfolding mark_of
  mark-live z i = ap (λ (b : Bool). eqb (cond b 0 (cond (is_live live i) 1 0)) 1) (ne_eqb count 0 z) ∙ by (is_live live i)
    where
      by : (b : Bool) → eqb (cond b 1 0) 1 ≡ b
      by true = refl
      by false = refl

  module _ (n : ℕ) (marks : List ℕ) (h : n ≤ length marks) where
    mark-at : (i : ℕ) → i < n → get_or (marks_of count live n marks) i 0 ≡ kept_mark count live i
    mark-at i l = (reached 0 (mark_at count live) marks n h).done i l

    each-bit : (i : ℕ) → i < n → (get_or (marks_of count live n marks) i 0 ≡ 0) ⊎ (get_or (marks_of count live n marks) i 0 ≡ 1)
    each-bit i l = subst (λ (x : ℕ). (x ≡ 0) ⊎ (x ≡ 1)) (sym (mark-at i l)) (mark-bit i)

    every : marked 0 (marks_of count live n marks) n + marked 1 (marks_of count live n marks) n ≡ n
    every = counted (marks_of count live n marks) n each-bit n (omega arith)

    none-marked : count ≡ 0 → marked 1 (marks_of count live n marks) n ≡ 0
    unfolding raise is_mark
    none-marked z =
        for_up_to (λ (i k : ℕ). k ≡ 0) (raise (is_mark 1 (marks_of count live n marks))) n 0 0 (omega arith) refl
        (λ j p q k e. ap (λ (x : ℕ). cond (eqb x 1) (k + 1) k) (mark-at j q ∙ mark-none z j) ∙ e)

    live-marked : (count ≡ 0 → ⊥) → marked 1 (marks_of count live n marks) n ≡ live_count live n
    unfolding raise is_mark
    live-marked z =
        for_up_same (raise (is_mark 1 (marks_of count live n marks))) (raise (is_live live)) n 0 0
        (λ j p q k. ap (λ (b : Bool). cond b (k + 1) k) (ap (λ (x : ℕ). eqb x 1) (mark-at j q) ∙ mark-live z j))

    ones-marked : (count ≡ 0) ⊎ (count ≡ live_count live n) → marked 1 (marks_of count live n marks) n ≡ count
    ones-marked s = by (eqb count 0) refl s
      where
        by : (b : Bool) → eqb count 0 ≡ b → (count ≡ 0) ⊎ (count ≡ live_count live n) → marked 1 (marks_of count live n marks) n ≡ count
        by true e s = let z = eqb-true count 0 e in none-marked z ∙ sym z
        by false e (inl z) = none-marked z ∙ sym z
        by false e (inr l) = live-marked (eqb-false count 0 e) ∙ sym l

    rest-marked : (rejected : ℕ) → (count ≡ 0 → ⊥) → (count ≡ 0) ⊎ (count ≡ live_count live n) → (count ≡ 0) ⊎ (count + rejected ≡ n)
        → marked 0 (marks_of count live n marks) n ≡ rejected
    rest-marked rejected z s (inl e) = absurd (z e)
    rest-marked rejected z s (inr e) = omega (arith, every, ones-marked s)

-- ---- of every accepted fit

pub fit-marks : (q : Request) → (fit_of q).answer.number ≡ 0 → MarksAddUp q.n (fit_of q).answer.model (fit_of q).kept
fit-marks q e =
    let m = (fit_of q).answer.model in
    let live = (ran_of q).live in
    let s = fit-sound q in
    let h = (fit-accepted q e).a_mark-each in
    subst (MarksAddUp q.n m) (sym (fit-kept q e))
    (record {
      all = every m.kept live q.n q.kept h;
      ones = ones-marked m.kept live q.n q.kept h (s.lives e);
      zeros = λ z. rest-marked m.kept live q.n q.kept h m.rejected z (s.lives e) (s.all e);
    })

-- of what a call gives
pub marks-add_up : (q : Request) (r : Result IlluminationModel Refusal) (kept : List ℕ) (scratch : List Float) → final (model_said r) kept scratch ≡ fit_of q
    → IfOk r (λ m. MarksAddUp q.n m kept)
marks-add_up q (Ok m) kept scratch e = subst (λ (f : Final). f.answer.number ≡ 0 → MarksAddUp q.n f.answer.model f.kept) (sym e) (fit-marks q) refl
marks-add_up q (Err r) kept scratch e = tt
