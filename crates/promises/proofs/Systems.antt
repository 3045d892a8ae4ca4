-- Elimination writes row r and column k below n only, at r * n + k of the matrix and at r of the right-hand side, and the unknowns are n elements before the tail of their slice. Assumes nothing.
use mathlib.Core.Path.{◌≡◌, refl, sym, ap, ◌∙◌}
use mathlib.Core.Bool.{Bool, true, false, cond}
use mathlib.Core.List.{List}
use Prim.Native.Nat.{ℕ, zero, suc, ◌+◌, ◌-◌, ◌*◌, ◌≤◌, ◌<◌}
use native.Mathlib.Nat.{le_refl}
use native.Mathlib.Omega.{arith}
use lib.Dec.{eqb}
use lib.ListN.{length, get_or, set, length-set}
use lib.Seq.{get_or-set_other, get_or-drop}
use lib.Ieee.{Float, nan, binary64, div, lt, eq}
use Rattle.float.specs.Select.{abs}
use Rattle.loops.specs.Loops.{Turn, go, out, and_then, turns_try, for_try}
use Rattle.loops.proofs.Laws.{for_up_to, cell}
use Rattle.sentences.specs.Sentences.{decided}
use Rattle.answers.specs.Answers.{refused_by}
use Rattle.math.specs.Gauss.{System, system, at, zero64, tiny, larger, pivot_row, swap_at, swap_rows, bring_up, subtract_at, subtract_row, eliminate_row, eliminate_below, eliminate_column, eliminate}
use Rattle.math.specs.Gauss.{concluded, gauss, numbered, short_system, bad_size, Final, final, final_of, solve_of}
use Rattle.math.proofs.Accepted as accepted
use Rattle.math.proofs.Callers.{keeps_length, keeps_tail}
use Rattle.promises.specs.Systems.{Tail}

-- ---- a list that keeps its tail

untouched : (m : ℕ) (l : List Float) → Tail m l l
untouched m l = record { long = refl; same = λ i h. refl }

in_turn : {m : ℕ} {k l q : List Float} → Tail m k l → Tail m l q → Tail m k q
in_turn s t = record { long = t.long ∙ s.long; same = λ i h. t.same i h ∙ s.same i h }

stored : (m : ℕ) (l : List Float) (i : ℕ) (v : Float) → i < m → Tail m l (set l i v)
stored m l i v h = record { long = length-set l i v; same = λ j k. get_or-set_other l i j v nan (λ e. omega arith) }

-- ---- a system that keeps both

record Both (n : ℕ) (s t : System) : Type 0 where
  matrix : Tail (n * n) s.a t.a
  right : Tail n s.b t.b

both-untouched : (n : ℕ) (s : System) → Both n s s
both-untouched n s = record { matrix = untouched (n * n) s.a; right = untouched n s.b }

both_in_turn : {n : ℕ} {s t u : System} → Both n s t → Both n t u → Both n s u
both_in_turn p q = record { matrix = in_turn p.matrix q.matrix; right = in_turn p.right q.right }

-- where a test says which of two is left
either : {n : ℕ} {s : System} (c : Bool) (t u : System) → Both n s t → Both n s u → Both n s (cond c t u)
either true t u p q = p
either false t u p q = q

module _ (n : ℕ) where
  -- ---- the loops

  pivot-row : (col : ℕ) (a : List Float) → col < n → pivot_row n a col < n
  unfolding larger
  pivot-row col a h =
      for_up_to (λ j p. p < n) (larger n a col) n (col + 1) col (omega arith) h (λ j q r p k. chosen (lt (abs (at n a p col)) (abs (at n a j col))) r k)
    where
      chosen : (c : Bool) {j p : ℕ} → j < n → p < n → cond c j p < n
      chosen true r k = r
      chosen false r k = k

  swapped : (r q : ℕ) (a : List Float) → r < n → q < n → Tail (n * n) a (swap_rows n r q a)
  unfolding swap_at
  swapped r q a hr hq =
      for_up_to (λ j t. Tail (n * n) a t) (swap_at n r q) n 0 a (omega arith) (untouched (n * n) a)
      (λ k _ hk t p. in_turn p (in_turn (stored (n * n) t (r * n + k) _ (cell hr hk (le_refl (n * n)))) (stored (n * n) _ (q * n + k) _ (cell hq hk (le_refl (n * n))))))

  subtracted : (col r : ℕ) (f : Float) (a : List Float) → col < n → r < n → Tail (n * n) a (subtract_row n col r f a)
  unfolding subtract_at
  subtracted col r f a hc hr =
      for_up_to (λ j t. Tail (n * n) a t) (subtract_at n col r f) n col a (omega arith) (untouched (n * n) a)
      (λ k _ hk t p. in_turn p (stored (n * n) t (r * n + k) _ (cell hr hk (le_refl (n * n)))))

  -- ---- one column

  brought_up : (col p : ℕ) (s : System) → col < n → p < n → Both n s (bring_up n col p s)
  unfolding bring_up
  brought_up col p s hc hp =
      either (eqb p col) s _ (both-untouched n s)
      record { matrix = swapped col p s.a hc hp; right = in_turn (stored n s.b col _ hc) (stored n _ p _ hp) }

  row-cleared : (col : ℕ) (d : Float) (r : ℕ) (s : System) → col < n → r < n → Both n s (eliminate_row n col d r s)
  unfolding eliminate_row
  row-cleared col d r s hc hr =
      either (eq (div binary64 (at n s.a r col) d) zero64) s _ (both-untouched n s)
      record { matrix = subtracted col r (div binary64 (at n s.a r col) d) s.a hc hr; right = stored n s.b r _ hr }

  below-cleared : (col : ℕ) (s : System) → col < n → Both n s (eliminate_below n col s)
  below-cleared col s hc =
      for_up_to (λ j t. Both n s t) (eliminate_row n col (at n s.a col col)) n (col + 1) s (omega arith) (both-untouched n s)
      (λ r _ hr t p. both_in_turn p (row-cleared col (at n s.a col col) r t hc hr))

  -- what a turn is left with, whether elimination goes on or not
  abbrev After : System → Turn System System → Type 0
  After s (go t) = Both n s t
  After s (out t) = Both n s t

  column : (col : ℕ) (s : System) → col < n → After s (eliminate_column n col s)
  unfolding eliminate_column
  column col s hc = chosen (lt (abs (at n s.a (pivot_row n s.a col) col)) tiny) _ (both_in_turn (brought_up col (pivot_row n s.a col) s hc (pivot-row col s.a hc)) (below-cleared col _ hc))
    where
      chosen : (c : Bool) (t : System) → Both n s t → After s (cond c (out s) (go t))
      chosen true t p = both-untouched n s
      chosen false t p = p

  -- a turn, and what follows it where elimination goes on
  next : (f : System → Turn System System) (s t : System) (u : Turn System System) → Both n s t → After t u → ((v : System) → Both n s v → After s (f v)) → After s (and_then f u)
  unfolding and_then
  next f s t (go u) p q h = h u (both_in_turn p q)
  next f s t (out u) p q h = both_in_turn p q

  -- every column
  columns : (k i : ℕ) (s t : System) → i + k ≤ n → Both n s t → After s (turns_try k i (eliminate_column n) t)
  unfolding turns_try
  columns zero i s t h p = p
  columns (suc k) i s t h p =
      next (turns_try k (suc i) (eliminate_column n)) s t (eliminate_column n i t) p (column i t (omega arith)) (λ v q. columns k (suc i) s v (omega arith) q)

  eliminated : (s : System) → After s (eliminate n s)
  unfolding for_try
  eliminated s = columns (n - 0) 0 s s (omega arith) (both-untouched n s)

  -- ---- elimination and back substitution

  module _ (a b x : List Float) where
    left : (t : Turn System System) → After (system a b) t → Tail (n * n) a (concluded n x t).a × Tail n b (concluded n x t).b
    unfolding concluded
    left (go s) p = (p.matrix, p.right)
    left (out s) p = (p.matrix, p.right)

    operands : Tail (n * n) a (gauss n a b x).a × Tail n b (gauss n a b x).b
    unfolding gauss
    operands = left (eliminate n (system a b)) (eliminated (system a b))

    slice : n ≤ length x → Tail n x (gauss n a b x).x
    slice h = record { long = keeps_length n x a b h; same = λ i k. at_place i (i - n) (omega arith) }
      where
        at_place : (i j : ℕ) → i ≡ n + j → get_or (gauss n a b x).x i nan ≡ get_or x i nan
        at_place i j e = rw e (sym (get_or-drop n (gauss n a b x).x j nan) ∙ ap (λ (l : List Float). get_or l j nan) (keeps_tail n x a b) ∙ get_or-drop n x j nan)

    -- ---- the call

    -- what a refused call leaves is what it was lent
    called : (P : Final → Type 0) → ((k : ℕ) → P (final (refused_by k) a b x)) → (n ≤ length x → P (final_of (gauss n a b x))) → P (solve_of n a b x)
    unfolding solve_of decided
    called P refused done = by_number (numbered short bad) (λ e. done (accepted.unknowns-fit short bad (sym e) n (length a) (length b) (length x) refl))
      where
        short : Bool
        short = short_system n (length a) (length b) (length x)

        bad : Bool
        bad = bad_size n

        by_number : (k : ℕ) → (k ≡ 0 → P (final_of (gauss n a b x))) → P (decided k (λ k. final (refused_by k) a b x) (final_of (gauss n a b x)))
        by_number zero d = d refl
        by_number (suc k) d = refused (suc k)

    pub matrix-kept : Tail (n * n) a (solve_of n a b x).a
    matrix-kept = called (λ f. Tail (n * n) a f.a) (λ k. untouched (n * n) a) (λ _. operands.0)

    pub right-side-kept : Tail n b (solve_of n a b x).b
    right-side-kept = called (λ f. Tail n b f.b) (λ k. untouched n b) (λ _. operands.1)

    pub unknowns-kept : Tail n x (solve_of n a b x).x
    unknowns-kept = called (λ f. Tail n x f.x) (λ k. untouched n x) slice
