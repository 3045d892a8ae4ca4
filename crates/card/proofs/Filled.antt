-- A loop that writes f(i) at every i below a count gives f(i) there and keeps the length and the tail: each turn writes one place, and no other turn comes to it. Assumes nothing.
use mathlib.Core.Path.{◌≡◌, refl, sym, ◌∙◌}
use mathlib.Core.Logic.{⊎_elim}
use mathlib.Core.List.{List, [], ◌∷◌}
use Prim.Native.Nat.{ℕ, suc, ◌≤◌, ◌<◌}
use native.Mathlib.Omega.{arith}
use native.Mathlib.Nat.{eq-or-lt_of_le}
use lib.ListN.{length, get_or, set, length-set}
use lib.Seq.{get_or-set_same, get_or-set_other, ext_get_or}
use Rattle.loops.specs.Loops.{for_up}
use Rattle.loops.proofs.Laws.{for_up_to}
use Rattle.card.specs.Sections.{put_at, filled}

module _ {A : Type 0} (d : A) (f : ℕ → A) (out : List A) where
  pub record Reached (n : ℕ) (l : List A) : Type 0 where
    pub same_length : length l ≡ length out
    pub written : (i : ℕ) → i < n → i < length out → get_or l i d ≡ f i
    pub kept : (i : ℕ) → n ≤ i → get_or l i d ≡ get_or out i d

  module _ (n : ℕ) (l : List A) (p : Reached n l) where
    here : (i : ℕ) → i ≡ n → i < length out → get_or (set l n (f n)) i d ≡ f i
    here i e h = rw e (get_or-set_same l n (f n) d (omega (arith, p.same_length)))

    next : Reached (suc n) (put_at f n l)
    unfolding put_at
    next =
        record {
          same_length = length-set l n (f n) ∙ p.same_length;
          written = λ i h q. ⊎_elim (λ (e : i ≡ n). here i e q) (λ (m : i < n). get_or-set_other l n i (f n) d (λ e. omega arith) ∙ p.written i m q) (eq-or-lt_of_le (below i h));
          kept = λ i h. get_or-set_other l n i (f n) d (λ e. omega arith) ∙ p.kept i (omega arith);
        }
      where
        below : (i : ℕ) → i < suc n → i ≤ n
        below i h = omega arith

  pub filled_is : (n : ℕ) → Reached n (filled f n out)
  filled_is n =
      for_up_to Reached (put_at f) n 0 out (omega arith)
      (record { same_length = refl; written = λ i h q. absurd (omega arith); kept = λ i h. refl })
      (λ j p q l r. next j l r)

-- a list that is as long and has f(i) at every i, however it was written
module _ {A : Type 0} (f : ℕ → A) where
  filled_by : (d : A) (out l : List A) → length l ≡ length out → ((i : ℕ) → i < length out → get_or l i d ≡ f i) → l ≡ filled f (length out) out
  filled_by d out l e written =
      let r = filled_is d f out (length out) in
      ext_get_or d l (filled f (length out) out) (e ∙ sym r.same_length) (λ i q. written i (omega arith) ∙ sym (r.written i (omega arith) (omega arith)))

  pub is_filled : (out l : List A) → length l ≡ length out → ((i : ℕ) (d : A) → i < length out → get_or l i d ≡ f i) → l ≡ filled f (length out) out
  unfolding for_up
  is_filled [] [] e written = refl
  is_filled [] (x ∷ l) e written = filled_by x [] (x ∷ l) e (λ i. written i x)
  is_filled (x ∷ out) l e written = filled_by x (x ∷ out) l e (λ i. written i x)
