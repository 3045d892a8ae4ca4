-- `listing::Cursor::hex` meets its contract: each byte's two digits are written after those before it. Assumes nothing.
use mathlib.Core.Path.{◌≡◌, refl, ap, ◌∙◌}
use mathlib.Core.Bool.{Bool, false, not}
use mathlib.Core.List.{List, [], ◌∷◌, ◌++◌}
use Prim.Native.Nat.{ℕ, zero, suc, ◌+◌, ◌-◌, ◌*◌, ◌/◌, ◌%◌, ◌^◌, ◌<◌}
use native.Mathlib.Omega.{arith}
use borrow.Author.Tests.{eqb-true, not-false}
use lib.Dec.{eqb}
use lib.ListN.{get_or}
use Rattle.loops.specs.Loops.{any_up, some_of}
use Rattle.loops.proofs.Laws.{any_up-false}
use Rattle.listing.specs.declared.Cursor.{Cursor}
use Rattle.listing.specs.Listing.{hex_digit, hex}
use Rattle.listing.specs.Writes.{Writes}
use Rattle.listing.proofs.Write.{nothing, after}
use Rattle.listing.proofs.Cursor.hex.Goals as goal

abbrev table : List ℕ
table = 48 ∷ 49 ∷ 50 ∷ 51 ∷ 52 ∷ 53 ∷ 54 ∷ 55 ∷ 56 ∷ 57 ∷ 65 ∷ 66 ∷ 67 ∷ 68 ∷ 69 ∷ 70 ∷ []

-- whether the table has another byte for d than its digit, which is computed for each d below 16
abbrev other : ℕ → Bool
other d = not (eqb (get_or table d 0) (hex_digit d))

no_other : any_up 0 16 other ≡ false
unfolding any_up some_of hex_digit
no_other = refl

digit : (d : ℕ) → d < 16 → get_or table d 0 ≡ hex_digit d
digit d h = eqb-true (get_or table d 0) (hex_digit d) (not-false (eqb (get_or table d 0) (hex_digit d)) (any_up-false other 16 no_other d h))

none : (n : ℕ) (x : Cursor) → Writes (hex 0 n) x x
unfolding hex
none n x = nothing x

none_here : (m n : ℕ) (x y : Cursor) → Writes (hex 0 m) x y → Writes (hex 0 n) x y
unfolding hex
none_here m n x y e = e

-- a byte, which is the lowest of m
module _ (k m hi lo : ℕ) (x y u z : Cursor) where
  two : hi ≡ m % 256 / 16 → lo ≡ m % 256 % 16 → Writes (hex k (m / 256)) x y → Writes (get_or table hi 0 ∷ []) y u → Writes (get_or table lo 0 ∷ []) u z → Writes (hex (suc (suc k)) m) x z
  unfolding hex
  two p q e f g =
      let a : get_or table hi 0 ≡ hex_digit (m / 16 % 16) = digit hi (omega arith) ∙ ap hex_digit (omega arith) in
      let b : get_or table lo 0 ≡ hex_digit (m % 16) = digit lo (omega arith) ∙ ap hex_digit (omega arith) in
      let r : m / 256 ≡ m / 16 / 16 = omega arith in
      after (hex k (m / 16 / 16) ++ (hex_digit (m / 16 % 16) ∷ [])) (hex_digit (m % 16) ∷ []) x u z
      (after (hex k (m / 16 / 16)) (hex_digit (m / 16 % 16) ∷ []) x y u (rw r at e) (rw a at f)) (rw b at g)

next : (n i hi lo : ℕ) (bytes : List ℕ) (x y u z : Cursor) → i < 4 → bytes ≡ (n / 16777216 % 256 ∷ n / 65536 % 256 ∷ n / 256 % 256 ∷ n % 256 ∷ []) → hi ≡ get_or bytes i 0 / 16 → lo ≡ get_or bytes i 0 % 16 →
    Writes (hex (2 * i) (n / 256 ^ (4 - i))) x y → Writes (get_or table hi 0 ∷ []) y u → Writes (get_or table lo 0 ∷ []) u z → Writes (hex (2 * (i + 1)) (n / 256 ^ (4 - (i + 1)))) x z
next n zero hi lo bytes x y u z l s p q e f g = two 0 (n / 16777216) hi lo x y u z (rw s at p) (rw s at q) (none_here _ (n / 16777216 / 256) x y e) f g
next n (suc zero) hi lo bytes x y u z l s p q e f g = two 2 (n / 65536) hi lo x y u z (rw s at p) (rw s at q) (let r : n / 16777216 ≡ n / 65536 / 256 = omega arith in rw r at e) f g
next n (suc (suc zero)) hi lo bytes x y u z l s p q e f g = two 4 (n / 256) hi lo x y u z (rw s at p) (rw s at q) (let r : n / 65536 ≡ n / 256 / 256 = omega arith in rw r at e) f g
next n (suc (suc (suc zero))) hi lo bytes x y u z l s p q e f g =
    let r : n / 1 ≡ n = omega arith in
    rw r (two 6 n hi lo x y u z (rw s at p) (rw s at q) e f g)
next n (suc (suc (suc (suc i)))) hi lo bytes x y u z l s p q e f g = absurd (omega arith)

pub loop-byte-init : goal.loop-byte-init
loop-byte-init c = none _ _

pub loop-byte-preserved : goal.loop-byte-preserved
loop-byte-preserved c = search (next)
