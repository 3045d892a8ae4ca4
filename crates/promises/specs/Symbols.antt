-- Symbols, hues and masks (crate `modulate`): what is undone, how the symbols of neighbouring hues differ, and that what is drawn is what is read. Definitions only.
use Rattle.std.specs.Prelude.{◌≡◌, true, false, List, ℕ, ◌+◌, ◌*◌, ◌/◌, ◌%◌, ◌^◌, ◌≤◌, ◌<◌, ℤ, length, get_or, Float}
use Rattle.std.specs.Float.{nan, binary32}
use Rattle.floatlaws.specs.Value.{hi, lo, Num}
use Rattle.floatlaws.specs.Order.{Le, Lt}
use Rattle.floatlaws.specs.Finite.{Fin}
use Rattle.limits.specs.Limits.{bad_hues}
use Rattle.limits.specs.Chroma.{chroma_on, symbol_bits}
use Rattle.modulate.specs.declared.Cell.TheVariants.{Unmasked, At}
use Rattle.symbols.specs.Gray.{gray, gray_inverse, chroma_symbol_to_hue, hue_to_chroma_symbol}
use Rattle.symbols.specs.Laws.{RotationsAdd, CallsUndo}
use Rattle.modulate.specs.Score.{bit_llr, unmask_at}
use Rattle.reading.specs.Read.{reads}
use Rattle.modulate.specs.Draw.{is_set, bit_of, level_at, hue_at}

-- Gray code and its inverse undo each other and stay below a power of two; so do a symbol and its hue, of 2 ^ q hues
pub record GrayCode : Type 0 where
  pub gray_of_inverse : (g : ℕ) → gray (gray_inverse g) ≡ g
  pub inverse_of_gray : (n : ℕ) → gray_inverse (gray n) ≡ n
  pub gray-below : (q n : ℕ) → n < 2 ^ q → gray n < 2 ^ q
  pub inverse-below : (q g : ℕ) → g < 2 ^ q → gray_inverse g < 2 ^ q
  pub symbol_of_hue : (q s : ℕ) → s < 2 ^ q → hue_to_chroma_symbol (chroma_symbol_to_hue s (2 ^ q)) (2 ^ q) ≡ s
  pub hue_of_symbol : (q h : ℕ) → h < 2 ^ q → chroma_symbol_to_hue (hue_to_chroma_symbol h (2 ^ q)) (2 ^ q) ≡ h
  pub hue-below : (q s : ℕ) → chroma_symbol_to_hue s (2 ^ q) < 2 ^ q
  pub symbol-below : (q h : ℕ) → hue_to_chroma_symbol h (2 ^ q) < 2 ^ q

-- s and t differ in exactly one bit, which is among the low q: at that place, and at no other
pub record OneBitApart (q s t : ℕ) : Type 0 where
  pub place : ℕ
  pub below : place < q
  pub differ : s / 2 ^ place % 2 ≡ t / 2 ^ place % 2 → ⊥
  pub agree : (b : ℕ) → (b ≡ place → ⊥) → s / 2 ^ b % 2 ≡ t / 2 ^ b % 2

-- of 2 ^ q hues, 2 or more, the symbols of a hue and of the next differ in exactly one bit. After the last hue comes hue 0
abbrev pub NeighbouringHues : Type 0
NeighbouringHues = (q h : ℕ) → 0 < q → OneBitApart q (hue_to_chroma_symbol h (2 ^ q)) (hue_to_chroma_symbol ((h + 1) % 2 ^ q) (2 ^ q))

-- rotations of k hues, of any count above 0: of the definitions, and of the calls
abbrev pub Rotations : Type 0
Rotations = (k : ℕ) → 0 < k → RotationsAdd k × CallsUndo k

-- of k log-likelihoods the one of hue h is above y, and every other is a number not above y
pub record Leads (ll : List Float) (k h : ℕ) (y : Float) : Type 0 where
  pub here : h < k
  pub top : Fin binary32 (get_or ll h nan)
  pub runner-up : Fin binary32 y
  pub ahead : Lt binary32 y (get_or ll h nan)
  pub others : (j : ℕ) → j < k → (j ≡ h → ⊥) → Num binary32 (get_or ll j nan) × Le binary32 (get_or ll j nan) y

-- a luma score says a level: below zero for light, 1, and above zero for dark, 0
pub record Says (level : ℕ) (v : Float) : Type 0 where
  pub is : Num binary32 v
  pub light : level ≡ 1 → 0 < lo binary32 v
  pub dark : level ≡ 0 → 0 < hi binary32 v

-- what is read is the card's bit. Its m luma bits come first, then the bits of each place of the chroma list, the cells before the ring modules
pub record DrawnIsRead : Type 0 where
  -- bit b of the symbol of cell j, where the hue that the cell was drawn in leads
  pub cell : (bits : List ℕ) (k m : ℕ) (cxs cys : List ℕ) (j b : ℕ) → bad_hues k ≡ false → chroma_on k ≡ true → b < symbol_bits k → (ll : List Float) (y : Float) → Leads ll k (hue_at bits k m cxs cys j) y →
      j < length cxs → reads (bit_llr ll (At (get_or cxs j 0) (get_or cys j 0)) k b) ≡ bit_of (is_set (get_or bits (m + symbol_bits k * j + b) 0))
  -- the same of a ring module
  pub ring : (bits : List ℕ) (k m : ℕ) (cxs cys : List ℕ) (j b : ℕ) → bad_hues k ≡ false → chroma_on k ≡ true → b < symbol_bits k → (ll : List Float) (y : Float) → Leads ll k (hue_at bits k m cxs cys j) y →
      length cxs ≤ j → reads (bit_llr ll Unmasked k b) ≡ bit_of (is_set (get_or bits (m + symbol_bits k * j + b) 0))
  -- the luma bit of module i, where its score says the level that it was drawn in: of the g grid modules unmasked, of a ring module as it is
  pub grid-luma : (bits : List ℕ) (xs ys : List ℤ) (g mask i : ℕ) (v : Float) → Says (level_at bits xs ys g mask i) v → i < g → reads (unmask_at mask xs ys i v) ≡ bit_of (is_set (get_or bits i 0))
  pub ring-luma : (bits : List ℕ) (xs ys : List ℤ) (g mask i : ℕ) (v : Float) → Says (level_at bits xs ys g mask i) v → g ≤ i → reads v ≡ bit_of (is_set (get_or bits i 0))
