-- Of n references, each is live or was rejected: turn i of the rejection settles reference i, and no other turn touches its mark. Assumes nothing.
use mathlib.Core.Path.{◌≡◌, sym, ap, ◌∙◌}
use mathlib.Core.Bool.{Bool, true, false, cond, ◌&&◌}
use mathlib.Core.List.{List}
use Prim.Native.Nat.{ℕ, zero, suc, ◌+◌, ◌-◌, ◌/◌, ◌≤◌, ◌<◌}
use native.Mathlib.Omega.{arith}
use lib.Dec.{ltb}
use lib.ListN.{length, get_or, set, length-set, length-replicate, get_or-replicate}
use lib.Seq.{get_or-set_same, get_or-set_other}
use lib.Ieee.{Float, nan, eq, lt}
use Rattle.loops.specs.Loops.{turns, for_up, raise}
use Rattle.loops.proofs.Laws.{for_up_same, for_up_to, for_up-done}
use Rattle.equations.specs.Live.{live_mark, dropped_mark, live_marks, is_live_mark, is_live, live_count}
use Rattle.residuals.specs.Residual.{Rejection, rejection, reject_at, reject_above}

-- ---- the last turn of a loop

last_turn : {S : Type 0} (f : ℕ → S → S) (k i : ℕ) (s : S) → turns (suc k) i f s ≡ f (i + k) (turns k i f s)
unfolding turns
last_turn f zero i s = ap (λ (j : ℕ). f j s) (first i)
  where
    first : (i : ℕ) → i ≡ i + zero
    first i = omega arith
last_turn f (suc k) i s = last_turn f k (suc i) (f i s) ∙ ap (λ (j : ℕ). f j (turns k (suc i) f (f i s))) (next i k)
  where
    next : (i k : ℕ) → suc i + k ≡ i + suc k
    next i k = omega arith

pub for_up_last : {S : Type 0} (f : ℕ → S → S) (i : ℕ) (s : S) → for_up 0 (suc i) f s ≡ f i (for_up 0 i f s)
unfolding for_up
for_up_last f i s =
    ap (λ (k : ℕ). turns k 0 f s) (whole (suc i)) ∙ last_turn f i 0 s ∙ ap (λ (j : ℕ). f j (turns i 0 f s)) (plain i)
    ∙ ap (λ (k : ℕ). f i (turns k 0 f s)) (sym (whole i))
  where
    whole : (k : ℕ) → k - 0 ≡ k
    whole k = omega arith

    plain : (k : ℕ) → 0 + k ≡ k
    plain k = omega arith

-- ---- the marks of the references that were passed

live-kept : (live : List Float) (i j : ℕ) (v : Float) → (j ≡ i → ⊥) → is_live (set live i v) j ≡ is_live live j
unfolding is_live_mark
live-kept live i j v h = ap (λ (x : Float). eq x live_mark) (get_or-set_other live i j v nan h)

dropped_dead : (live : List Float) (i : ℕ) → i < length live → is_live (set live i dropped_mark) i ≡ false
unfolding is_live_mark eq
dropped_dead live i h = ap (λ (x : Float). eq x live_mark) (get_or-set_same live i dropped_mark nan h)

passed-kept : (live : List Float) (i : ℕ) (v : Float) → live_count (set live i v) i ≡ live_count live i
unfolding raise
passed-kept live i v =
    for_up_same (raise (is_live (set live i v))) (raise (is_live live)) i 0 0 (λ j p q k. ap (λ (b : Bool). cond b (k + 1) k) (live-kept live i j v (λ e. omega arith)))

module _ (live : List Float) (i : ℕ) where
  counts-live : is_live live i ≡ true → live_count live (suc i) ≡ live_count live i + 1
  unfolding raise
  counts-live t = for_up_last (raise (is_live live)) i 0 ∙ ap (λ (b : Bool). cond b (live_count live i + 1) (live_count live i)) t

  counts_dead : is_live live i ≡ false → live_count live (suc i) ≡ live_count live i
  unfolding raise
  counts_dead t = for_up_last (raise (is_live live)) i 0 ∙ ap (λ (b : Bool). cond b (live_count live i + 1) (live_count live i)) t

-- those before i are live or counted as rejected, and those from i on are live
pub record Settled (n i : ℕ) (s : Rejection) : Type 0 where
  pub long : length s.live ≡ n
  pub count : live_count s.live i + s.rejected ≡ i
  pub rest : (j : ℕ) → i ≤ j → j < n → is_live s.live j ≡ true

module _ (n i : ℕ) (h : i < n) (s : Rejection) (r : Settled n i s) where
  spared : Settled n (suc i) s
  spared =
      record {
        long = r.long;
        count = omega (arith, counts-live s.live i (r.rest i (omega arith) h), r.count);
        rest = λ j p q. r.rest j (omega arith) q;
      }

  dropped : Settled n (suc i) (rejection (set s.live i dropped_mark) (s.rejected + 1))
  dropped =
      record {
        long = length-set s.live i dropped_mark ∙ r.long;
        count =
            omega (arith, counts_dead (set s.live i dropped_mark) i (dropped_dead s.live i (omega (arith, r.long))), passed-kept s.live i dropped_mark, r.count);
        rest = λ j p q. live-kept s.live i j dropped_mark (λ e. omega arith) ∙ r.rest j (omega arith) q;
      }

settles : (residuals : List Float) (limit : Float) (most n i : ℕ) → i < n → (s : Rejection) → Settled n i s → Settled n (suc i) (reject_at residuals limit most i s)
unfolding reject_at
settles residuals limit most n i h s r = either (lt limit (get_or residuals i nan) && ltb s.rejected most)
  where
    either : (b : Bool) → Settled n (suc i) (cond b (rejection (set s.live i dropped_mark) (s.rejected + 1)) s)
    either true = dropped n i h s r
    either false = spared n i h s r

all_live : (n j : ℕ) → j < n → is_live (live_marks n) j ≡ true
unfolding is_live_mark eq
all_live n j h = ap (λ (x : Float). eq x live_mark) (get_or-replicate n j live_mark nan h)

begins : (n : ℕ) → Settled n 0 (rejection (live_marks n) 0)
begins n =
    record {
      long = length-replicate n live_mark;
      count = omega (arith, for_up-done (raise (is_live (live_marks n))) 0 0 0 (omega arith));
      rest = λ j p q. all_live n j q;
    }

pub each-counted : (residuals : List Float) (limit : Float) (n : ℕ) → let s = reject_above residuals limit n (live_marks n) in live_count s.live n + s.rejected ≡ n
unfolding reject_above
each-counted residuals limit n =
    (for_up_to (Settled n) (reject_at residuals limit (n / 4)) n 0 (rejection (live_marks n) 0) (omega arith) (begins n)
    (λ j p q s. settles residuals limit (n / 4) n j q s)).count
