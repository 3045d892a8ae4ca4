-- `modulate::symbol_at` meets its contract: what is left of the bits gives the symbol; i bits make a number below 2 ^ i. Assumes nothing.
use mathlib.Core.Path.{◌≡◌, refl, ap, ◌∙◌}
use mathlib.Core.Bool.{Bool, true, false}
use mathlib.Core.List.{List}
use borrow.Author.Rules.{rules}
use Prim.Native.Nat.{ℕ, ◌+◌, ◌-◌, ◌*◌, ◌^◌, ◌≤◌, ◌<◌}
use native.Mathlib.Nat.{pow-suc}
use native.Mathlib.Numerals.{add-one}
use native.Mathlib.Omega.{arith}
use lib.ListN.{length, get_or, take, drop}
use lib.Seq.{length-take-le, get_or-drop}
use lib.Pow.{pow_mono}
use mir.Val.{bool_byte}
use Rattle.std.proofs.Common.{length-drop}
use Rattle.std.proofs.lemmas.List.{get_or-take}
use Rattle.loops.proofs.Laws.{loops}
use Rattle.modulate.specs.Draw.{is_set, bit_of, push_bit}
use Rattle.modulate.proofs.symbol_at.Goals as goal

bit-is : (t : Bool) → bool_byte t ≡ bit_of t
unfolding bit_of
bit-is true = refl
bit-is false = refl

bit-below : (t : Bool) → bool_byte t < 2
bit-below true = omega arith
bit-below false = omega arith

module _ (bits : List ℕ) (from count : ℕ) (room : from + count ≤ length bits) where
  abbrev taken : List ℕ
  taken = take (from + count - from) (drop from bits)

  long : length taken ≡ count
  long = let e = length-drop from bits in length-take-le (from + count - from) (drop from bits) (omega arith) ∙ omega arith

  -- there are no bits left
  ended : (b : ℕ) → length taken ≤ b → count ≤ b
  ended b h = let e = long in omega arith

  module _ (b : ℕ) (l : b < length taken) where
    going : b < count
    going = let e = long in omega arith

    bit_here : get_or taken b 0 ≡ get_or bits (from + b) 0
    bit_here = let e = long in get_or-take (from + count - from) (drop from bits) b 0 (omega arith) ∙ get_or-drop from bits b 0

    module _ (s d : ℕ) (t : Bool) (e : d ≡ bool_byte t) where
      pushed : t ≡ is_set (get_or taken b 0) → s * 2 + d ≡ push_bit bits from b s
      unfolding push_bit
      pushed f = ap (λ (x : ℕ). s * 2 + x) (e ∙ bit-is t ∙ ap bit_of (f ∙ ap is_set bit_here))

      doubled : s < 2 ^ b → s * 2 + d < 2 ^ (b + 1)
      doubled h = let q = bit-below t in rw (add-one b, pow-suc 2 b) (omega arith)

      small : count ≤ 4 → s < 2 ^ b → s < 16
      small m h = let q = going in omega (arith, pow_mono {i = b} {j = 4} (omega arith))

pub loop-bit-preserved : goal.loop-bit-preserved
loop-bit-preserved c = (search (doubled), search (going, pushed, loops, rules))

pub returns : goal.returns
returns c = search (ended, loops, rules)
