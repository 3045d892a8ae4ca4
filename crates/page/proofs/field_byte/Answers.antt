-- `page::field_byte` meets its contract: what is left of the number, as many places nearer its right end, has the same byte there. Assumes nothing.
use mathlib.Core.Path.{◌≡◌, sym, ap, ◌∙◌}
use Prim.Native.Nat.{ℕ, suc, ◌+◌, ◌-◌, ◌/◌, ◌%◌, ◌≤◌, ◌<◌}
use native.Mathlib.Omega.{arith}
use borrow.Author.Tests.{lt-ltb, le-ltb}
use Rattle.page.specs.Steps.{field_byte}
use Rattle.page.proofs.field_byte.Goals as goal
use Rattle.page.proofs.field_byte.Invariants.{Nearer}

place-more : (k i : ℕ) → i < k → k - i ≡ suc (k - (i + 1))
place-more k i h = omega arith

module _ (n k left i : ℕ) (inv : Nearer n k left i) where
  is_space : i < k → left < 10 → 32 ≡ field_byte k n
  unfolding field_byte
  is_space h l = sym (ap (λ (j : ℕ). field_byte j left) (place-more k i h) ∙ rw (lt-ltb left 10 l)) ∙ inv.same

  goes_on : i < k → 10 ≤ left → Nearer n k (left / 10) (i + 1)
  unfolding field_byte
  goes_on h l = record { same = sym (ap (λ (j : ℕ). field_byte j left) (place-more k i h) ∙ rw (le-ltb left 10 l)) ∙ inv.same }

  is_digit : k ≤ i → 48 + left % 10 ≡ field_byte k n
  unfolding field_byte
  is_digit h = ap (λ (j : ℕ). field_byte j left) (let z : 0 ≡ k - i = omega arith in z) ∙ inv.same

starts : (n k : ℕ) → Nearer n k n 0
starts n k = record { same = ap (λ (j : ℕ). field_byte j n) (let z : k - 0 ≡ k = omega arith in z) }

pub loop-i-init : goal.loop-i-init
loop-i-init c = search (starts)

pub returns-then-left-lt10 : goal.returns-then-left-lt10
returns-then-left-lt10 c = search (is_space)

pub loop-i-preserved : goal.loop-i-preserved
loop-i-preserved c = search (goes_on)

pub returns : goal.returns
returns c = search (is_digit)
