-- What a block's list holds, entry by entry: a list whose first n entries are written holds them, and a list that colours are put into holds these. Assumes nothing.
use mathlib.Core.Path.{◌≡◌, refl, ◌∙◌}
use mathlib.Core.Logic.{⊎_elim}
use mathlib.Core.List.{List, ◌++◌}
use Prim.Native.Nat.{ℕ, suc, ◌+◌, ◌*◌, ◌≤◌, ◌<◌, zero-le}
use native.Mathlib.Omega.{arith}
use native.Mathlib.Nat.{eq-or-lt_of_le}
use lib.ListN.{length, get_or, take, drop, get_or-append}
use lib.Seq.{length-take-le}
use lib.Ieee.{Float}
use Rattle.loops.proofs.Laws.{for_up_to}
use Rattle.color.specs.declared.Linear.{Linear}
use Rattle.color.specs.Palette.{linear_at}
use Rattle.observed.specs.Entries.{Block}
use Rattle.observed.specs.Colours.{colour_at, write_colours}
use Rattle.observed.proofs.Threes.{three-long, colour-own, colour-other}

-- a loop over the first n entries came to their end, and wrote each of them
pub front_held : {A : Type 0} (d : A) (f : ℕ → A) (n i : ℕ) (l s : List A) → n ≤ length l → length s ≡ length (take n l) → length (take n l) ≤ i → ((j : ℕ) → j < i → get_or s j d ≡ f j) →
    Block (λ (t : List A) (j : ℕ). get_or t j d) f n (s ++ drop n l)
front_held d f n i l s h e past done =
    let r = length-take-le n l h in
    record { at = λ j q. get_or-append s (drop n l) d j (omega arith) ∙ done j (omega arith) }

module _ (colour : ℕ → Linear) (l : List Float) where
  record Written (i : ℕ) (s : List Float) : Type 0 where
    long : length s ≡ length l
    held : (j : ℕ) → j < i → linear_at s j ≡ colour j

  start : Written 0 l
  start = record { long = refl; held = λ j h. absurd (omega arith) }

  next : (i : ℕ) (s : List Float) → 3 * i + 2 < length l → Written i s → Written (suc i) (colour_at colour i s)
  unfolding colour_at
  next i s h p =
      record {
        long = three-long s i (colour i).r (colour i).g (colour i).b ∙ p.long;
        held = λ j q.
            ⊎_elim (λ (e : j ≡ i). rw e (colour-own s i (colour i).r (colour i).g (colour i).b (omega (arith, p.long))))
            (λ (u : j < i). colour-other s i (colour i).r (colour i).g (colour i).b j (λ e. omega arith) ∙ p.held j u)
            (eq-or-lt_of_le (let z : j ≤ i = omega arith in z));
      }

  -- n colours are put
  pub colours_held : (n : ℕ) → 3 * n ≤ length l → Block linear_at colour n (write_colours colour n l)
  colours_held n h =
      let w = for_up_to Written (colour_at colour) n 0 l zero-le start (λ i q r s p. next i s (omega arith) p) in
      record { at = w.held }
