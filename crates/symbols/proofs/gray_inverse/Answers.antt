-- `symbols::gray_inverse` meets its contract: what was put in and what is left to put in make the whole. Assumes nothing.
use mathlib.Core.Path.{◌≡◌, refl, sym, ap, ◌∙◌}
use Prim.Native.Nat.{ℕ, ◌/◌}
use lib.Bits.{bit_xor, xor_zero_r}
use Rattle.symbols.specs.Gray.{gray_inverse}
use Rattle.symbols.proofs.GrayCode.{inverse_step, inverse_of_zero}
use Rattle.symbols.proofs.Xor.{xor_assoc}
use Rattle.symbols.proofs.gray_inverse.Goals as goal

next : (g n left : ℕ) → bit_xor n (gray_inverse left) ≡ gray_inverse g → bit_xor (bit_xor n left) (gray_inverse (left / 2)) ≡ gray_inverse g
next g n left e = xor_assoc n left (gray_inverse (left / 2)) ∙ ap (bit_xor n) (sym (inverse_step left)) ∙ e

last : (g n left : ℕ) → left ≡ 0 → bit_xor n (gray_inverse left) ≡ gray_inverse g → n ≡ gray_inverse g
last g n left z e = sym (xor_zero_r n) ∙ ap (bit_xor n) (sym inverse_of_zero) ∙ ap (λ (x : ℕ). bit_xor n (gray_inverse x)) (sym z) ∙ e

pub loop-left-init : goal.loop-left-init
loop-left-init c = refl

pub loop-left-preserved : goal.loop-left-preserved
loop-left-preserved c = search (next)

pub returns : goal.returns
returns c = search (last)
