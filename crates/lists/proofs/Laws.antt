-- A list whose first n entries are replaced one after the other has each of them replaced, its tail and its length as they were, since no turn comes back to an entry;
-- so replacing twice by what undoes itself restores the list. Assumes nothing.
use mathlib.Core.Path.{◌≡◌, refl, sym, ap, ◌∙◌}
use mathlib.Core.Logic.{⊎_elim}
use mathlib.Core.Bool.{Bool, true, false}
use mathlib.Core.List.{List}
use Prim.Native.Nat.{ℕ, suc, ◌≤◌, ◌<◌}
use native.Mathlib.Omega.{arith}
use native.Mathlib.Nat.{eq-or-lt_of_le}
use Rattle.std.proofs.lemmas.Bool.{cases_lt}
use borrow.Author.Tests.{ltb-true, ltb-false}
use lib.Dec.{ltb}
use lib.ListN.{length, get_or, length-set}
use lib.Seq.{get_or-set_same, get_or-set_other, ext_get_or}
use Rattle.loops.proofs.Laws.{for_up_to}
use Rattle.lists.specs.Lists.{replace_at, replaced}

module _ {A : Type 0} (d : A) (f : ℕ → A → A) (l : List A) where
  -- i entries are replaced
  pub record Reached (i : ℕ) (s : List A) : Type 0 where
    pub long : length s ≡ length l
    pub done : (j : ℕ) → j < i → get_or s j d ≡ f j (get_or l j d)
    pub kept : (j : ℕ) → i ≤ j → get_or s j d ≡ get_or l j d

  start : Reached 0 l
  start = record { long = refl; done = λ j h. absurd (omega arith); kept = λ j h. refl }

  next : (i : ℕ) (s : List A) → i < length l → Reached i s → Reached (suc i) (replace_at d f i s)
  next i s h p =
      record {
        long = length-set s i _ ∙ p.long;
        done = λ j q. ⊎_elim (λ (e : j ≡ i). rw e (get_or-set_same s i (f i (get_or s i d)) d (omega (arith, p.long)) ∙ ap (f i) (p.kept i (omega arith)))) (λ (u : j < i). get_or-set_other s i j _ d (λ e. omega arith) ∙ p.done j u) (eq-or-lt_of_le (let z : j ≤ i = omega arith in z));
        kept = λ j q. get_or-set_other s i j _ d (λ e. omega arith) ∙ p.kept j (omega arith);
      }

  pub reached : (n : ℕ) → n ≤ length l → Reached n (replaced d n f l)
  reached n h = for_up_to Reached (replace_at d f) n 0 l (omega arith) start (λ i q r s p. next i s (omega arith) p)

-- a list that is as long, has the replaced entries first and the others as they were, however it was written
pub is_replaced : {A : Type 0} (d : A) (n : ℕ) (f : ℕ → A → A) (l s : List A) → n ≤ length l → length s ≡ length l →
    ((j : ℕ) → j < n → get_or s j d ≡ f j (get_or l j d)) → ((j : ℕ) → n ≤ j → get_or s j d ≡ get_or l j d) → s ≡ replaced d n f l
is_replaced d n f l s h e done kept =
    let r = reached d f l n h in
    ext_get_or d s (replaced d n f l) (e ∙ sym r.long)
    (λ j q. ⊎_elim (λ (u : j < n). done j u ∙ sym (r.done j u)) (λ (u : n ≤ j). kept j u ∙ sym (r.kept j u)) (cases_lt j n))

module _ {A : Type 0} (d : A) (f : ℕ → A → A) (n : ℕ) (l : List A) (h : n ≤ length l) where
  long-again : n ≤ length (replaced d n f l)
  long-again = omega (arith, (reached d f l n h).long)

  entry-again : ((i : ℕ) (x : A) → f i (f i x) ≡ x) → (j : ℕ) (b : Bool) → ltb j n ≡ b → get_or (replaced d n f (replaced d n f l)) j d ≡ get_or l j d
  entry-again u j true e =
      let p = ltb-true j n e in
      (reached d f (replaced d n f l) n long-again).done j p ∙ ap (f j) ((reached d f l n h).done j p) ∙ u j (get_or l j d)
  entry-again u j false e =
      let p = ltb-false j n e in
      (reached d f (replaced d n f l) n long-again).kept j p ∙ (reached d f l n h).kept j p

  pub twice : ((i : ℕ) (x : A) → f i (f i x) ≡ x) → replaced d n f (replaced d n f l) ≡ l
  twice u =
      ext_get_or d (replaced d n f (replaced d n f l)) l ((reached d f (replaced d n f l) n long-again).long ∙ (reached d f l n h).long)
      (λ j q. entry-again u j (ltb j n) refl)
