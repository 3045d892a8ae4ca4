-- A loop that writes f 0, f 1, .. to the start of a list has, before turn i, written the first i of them: one law for every such loop. Assumes nothing.
use mathlib.Core.List.{List}
use mathlib.Core.Logic.{⊎_elim}
use mathlib.Core.Path.{◌≡◌, ◌∙◌}
use Prim.Native.Nat.{ℕ, ◌+◌, ◌≤◌, ◌<◌}
use native.Mathlib.Nat.{eq-or-lt_of_le}
use native.Mathlib.Omega.{arith}
use lib.Ieee.{Float, nan}
use lib.ListN.{length, set}
use lib.Seq.{get_or-set_same, get_or-set_other}
use Rattle.local.specs.Sums.{Firsts}

module _ (f : ℕ → Float) (v : List Float) where
  pub firsts-begin : Firsts f 0 v
  firsts-begin = record { at = λ j h. absurd (omega arith) }

  module _ (i : ℕ) (p : Firsts f i v) where
    pub firsts-turn : (x : Float) → i < length v → x ≡ f i → Firsts f (i + 1) (set v i x)
    firsts-turn x h e =
        record {
          at = λ j q. ⊎_elim (λ (z : j ≡ i). rw z (get_or-set_same v i x nan h ∙ e)) (λ (u : j < i). get_or-set_other v i j x nan (λ z. omega arith) ∙ p.at j u) (eq-or-lt_of_le (let z : j ≤ i = omega arith in z));
        }

    pub firsts-done : (n : ℕ) → n ≤ i → Firsts f n v
    firsts-done n h = record { at = λ j q. p.at j (omega arith) }

pub ruleset firsts = (firsts-begin, firsts-turn, firsts-done)
