-- The counts are what they are called: each is the number of colours that fall to its class, and what lies past them is as it was. After the turns up to i this holds of the first i colours. Assumes nothing.
use mathlib.Core.Path.{◌≡◌, refl, sym, ap, ◌∙◌}
use mathlib.Core.Bool.{Bool, true, false, cond}
use mathlib.Core.List.{List}
use Prim.Native.Nat.{ℕ, suc, ◌+◌, ◌≤◌, ◌<◌}
use native.Mathlib.Omega.{arith}
use borrow.Author.Tests.{eqb-true, eq-eqb}
use lib.Dec.{eqb}
use lib.ListN.{length, get_or, set, length-set}
use lib.Seq.{get_or-set_same, get_or-set_other}
use lib.Ieee.{Float}
use Rattle.loops.proofs.Laws.{for_up_to}
use Rattle.lists.proofs.Laws.{reached}
use Rattle.limits.specs.Limits.{bad_hues}
use Rattle.stats.specs.declared.ChannelStats.{ChannelStats}
use Rattle.counts.specs.Counts.{sample_at, classes, class_of, count_at, counted, cleared, Sums, fallen, Divides}
use Rattle.counts.proofs.Levels.{class_is}

module _ (n : ChannelStats) (palette : List Float) (k : ℕ) (out : List ℕ) (ok : bad_hues k ≡ false) (long : classes k ≤ length out) where
  -- the first i colours are counted
  record Reached (i : ℕ) (l : List ℕ) : Type 0 where
    same : length l ≡ length out
    each : (c : ℕ) → c < classes k → get_or l c 0 ≡ fallen n palette k i c
    rest : (c : ℕ) → classes k ≤ c → get_or l c 0 ≡ get_or out c 0

  start : Reached 0 (cleared (classes k) out)
  unfolding fallen
  start = let r = reached 0 (λ i x. 0) out (classes k) long in record { same = r.long; each = r.done; rest = r.kept }

  raised : (l : List ℕ) (d c t : ℕ) (b : Bool) → d < length l → get_or l c 0 ≡ t → eqb d c ≡ b → get_or (set l d (get_or l d 0 + 1)) c 0 ≡ t + cond b 1 0
  raised l d c t true h g e = let z = eqb-true d c e in rw (← z) (get_or-set_same l d (get_or l d 0 + 1) 0 h ∙ ap (λ (x : ℕ). x + 1) (rw z g))
  raised l d c t false h g e = get_or-set_other l d c (get_or l d 0 + 1) 0 (λ z. let w = eq-eqb d c (sym z) in let y : ◌≡◌ {A = ℕ} 0 1 = cc in omega arith) ∙ omega arith

  next : (i : ℕ) (l : List ℕ) → Reached i l → Reached (suc i) (count_at n palette k i l)
  unfolding count_at fallen
  next i l p =
      let d = class_of n palette k (sample_at i) in
      let q = (class_is n palette k (sample_at i) ok).among in
      record {
        same = length-set l d (get_or l d 0 + 1) ∙ p.same;
        each = λ c g. raised l d c (fallen n palette k i c) (eqb d c) (omega (arith, p.same)) (p.each c g) refl;
        rest = λ c g. get_or-set_other l d c (get_or l d 0 + 1) 0 (λ z. omega arith) ∙ p.rest c g;
      }

  all : Reached 32768 (counted n palette k out)
  all = for_up_to Reached (count_at n palette k) 32768 0 (cleared (classes k) out) (omega arith) start (λ i q h l p. next i l p)

  pub divided : (after : List ℕ) → after ≡ counted n palette k out → Sums (classes k) 32768 after → Divides n palette k out after
  divided after e p = record { sum = p; each = λ c g. rw e (all.each c g); rest = λ c g. rw e (all.rest c g) }
