-- A symbol that is put together from q bits, high bit first, has them as its bits: each later bit moves the earlier ones one place up. Assumes nothing.
use mathlib.Core.Path.{◌≡◌, sym, ap, ◌∙◌}
use mathlib.Core.Logic.{⊎_elim}
use mathlib.Core.Bool.{Bool, true, false}
use mathlib.Core.List.{List}
use Prim.Native.Nat.{ℕ, suc, ◌+◌, ◌-◌, ◌*◌, ◌/◌, ◌%◌, ◌^◌, ◌≤◌, ◌<◌}
use native.Mathlib.Nat.{eq-or-lt_of_le, pow-suc, div-one}
use native.Mathlib.Omega.{arith}
use lib.Arith.{digits_div, digits_mod}
use lib.Pow.{shr-shr}
use lib.ListN.{get_or}
use Rattle.loops.proofs.Laws.{for_up_to}
use Rattle.modulate.specs.Score.{symbol_bit}
use Rattle.modulate.specs.Draw.{is_set, bit_of, push_bit, symbol_at}

pub bit_lt : (t : Bool) → bit_of t < 2
unfolding bit_of
bit_lt true = omega arith
bit_lt false = omega arith

-- one bit more
module _ (s d : ℕ) (h : d < 2) where
  higher : (m : ℕ) → (s * 2 + d) / 2 ^ suc m ≡ s / 2 ^ m
  higher m =
      ap (λ (x : ℕ). (s * 2 + d) / 2 ^ x) (one_more m) ∙ sym (shr-shr (s * 2 + d) 1 m) ∙ ap (λ (x : ℕ). x / 2 ^ m) (digits_div s h)
    where
      one_more : (m : ℕ) → suc m ≡ 1 + m
      one_more m = omega arith

module _ (bits : List ℕ) (from : ℕ) where
  abbrev pub bit_at : ℕ → ℕ
  bit_at b = bit_of (is_set (get_or bits (from + b) 0))

  record Holds (n s : ℕ) : Type 0 where
    small : s < 2 ^ n
    bit : (b : ℕ) → b < n → s / 2 ^ (n - 1 - b) % 2 ≡ bit_at b

  next : (n s : ℕ) → Holds n s → Holds (suc n) (push_bit bits from n s)
  unfolding push_bit
  next n s p =
      let d = bit_lt (is_set (get_or bits (from + n) 0)) in
      record {
        small = omega (arith, pow-suc 2 n, p.small);
        bit = λ b h. ⊎_elim (λ (e : b ≡ n). last b e) (λ (u : b < n). earlier b u) (eq-or-lt_of_le (let z : b ≤ n = omega arith in z));
      }
    where
      last : (b : ℕ) → b ≡ n → (s * 2 + bit_at n) / 2 ^ (suc n - 1 - b) % 2 ≡ bit_at b
      last b e =
          let z : suc n - 1 - b ≡ 0 = omega arith in
          ap (λ (x : ℕ). (s * 2 + bit_at n) / 2 ^ x % 2) z ∙ ap (λ (x : ℕ). x % 2) (div-one (s * 2 + bit_at n)) ∙
          digits_mod s (bit_lt (is_set (get_or bits (from + n) 0))) ∙ ap bit_at (sym e)

      earlier : (b : ℕ) → b < n → (s * 2 + bit_at n) / 2 ^ (suc n - 1 - b) % 2 ≡ bit_at b
      earlier b u =
          let z : suc n - 1 - b ≡ suc (n - 1 - b) = omega arith in
          ap (λ (x : ℕ). (s * 2 + bit_at n) / 2 ^ x % 2) z ∙ ap (λ (x : ℕ). x % 2) (higher s (bit_at n) (bit_lt (is_set (get_or bits (from + n) 0))) (n - 1 - b)) ∙
          p.bit b u

  whole : (q : ℕ) → Holds q (symbol_at bits from q)
  whole q = for_up_to Holds (push_bit bits from) q 0 0 (omega arith) (record { small = omega arith; bit = λ b h. absurd (omega arith) }) (λ n h l s p. next n s p)

  pub symbol_lt : (q : ℕ) → symbol_at bits from q < 2 ^ q
  symbol_lt q = (whole q).small

  -- bit b of the symbol is bit b of the list
  pub symbol-bit : (q b : ℕ) → b < q → symbol_bit q (symbol_at bits from q) b ≡ bit_at b
  unfolding symbol_bit
  symbol-bit q b h = (whole q).bit b h
