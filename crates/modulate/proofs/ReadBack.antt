-- What is drawn is what is read. Chroma: where the drawn hue leads, each bit read is the card's, since the score's bit is the symbol's, which is the card's. Luma: where a module's score
-- has the sign of its drawn level, unmasking turns it as drawing turned the bit. Assumes nothing.
use mathlib.Core.Path.{◌≡◌, refl, sym, ap, ◌∙◌, subst}
use mathlib.Core.Bool.{Bool, true, false, cond, xor}
use mathlib.Core.List.{List}
use Prim.Native.Nat.{ℕ, ◌+◌, ◌*◌, ◌^◌, ◌≤◌, ◌<◌}
use borrow.Author.Tests.{lt-ltb, le-ltb}
use lib.IntN.{ℤ}
use lib.ListN.{length, get_or}
use lib.Ieee.{Float, binary32, neg}
use Rattle.floatlaws.specs.Value.{hi, lo, Num}
use Rattle.floatlaws.specs.Order.{neg-num, hi_neg, lo_neg}
use Rattle.limits.specs.Limits.{bad_hues}
use Rattle.limits.specs.Chroma.{log2, chroma_on, symbol_bits}
use Rattle.limits.proofs.Laws.{hues_in, symbol_bits_on}
use Rattle.modulate.specs.declared.Cell.TheVariants.{Unmasked, At}
use Rattle.modulate.specs.Score.{bit_of_hue, symbol_bit, bit_llr, masked_at, unmask_at}
use Rattle.reading.specs.Read.{reads}
use Rattle.reading.proofs.Sign.{read-zero, read_one}
use Rattle.modulate.specs.Draw.{is_set, bit_of, grid_level, ring_level, symbol_at, cell_hue, ring_hue, level_at, hue_at}
use Rattle.modulate.proofs.Symbols.{symbol_lt, symbol-bit}
use Rattle.modulate.proofs.Decided.{Leads, read_back, cell-bit, ring-bit}

-- ---- chroma: place j of the chroma list, bit b of its symbol

module _ (bits : List ℕ) (k m : ℕ) (cxs cys : List ℕ) (j b : ℕ) (good : bad_hues k ≡ false) (on : chroma_on k ≡ true) (in-symbol : b < symbol_bits k) where
  from : ℕ
  from = m + symbol_bits k * j

  symbol : ℕ
  symbol = symbol_at bits from (symbol_bits k)

  symbol-below : symbol < k
  unfolding symbol
  symbol-below =
      subst (λ (x : ℕ). symbol < x) (ap (λ (x : ℕ). 2 ^ x) (symbol_bits_on k on) ∙ (hues_in k good).power) (symbol_lt bits from (symbol_bits k))

  bit_is : symbol_bit (log2 k) symbol b ≡ bit_of (is_set (get_or bits (m + symbol_bits k * j + b) 0))
  unfolding symbol from
  bit_is = ap (λ (x : ℕ). symbol_bit x symbol b) (sym (symbol_bits_on k on)) ∙ symbol-bit bits from (symbol_bits k) b in-symbol

  module _ (ll : List Float) (y : Float) (p : Leads ll k (hue_at bits k m cxs cys j) y) where
    -- a cell
    pub read_cell : j < length cxs → reads (bit_llr ll (At (get_or cxs j 0) (get_or cys j 0)) k b) ≡ bit_of (is_set (get_or bits (m + symbol_bits k * j + b) 0))
    unfolding hue_at symbol from
    read_cell h =
        let cx = get_or cxs j 0 in
        let cy = get_or cys j 0 in
        let e : hue_at bits k m cxs cys j ≡ cell_hue symbol cx cy k = rw (lt-ltb j (length cxs) h) in
        read_back ll (At cx cy) k b (hue_at bits k m cxs cys j) y p ∙ ap (bit_of_hue (At cx cy) k b) e ∙ cell-bit k good symbol b symbol-below cx cy ∙ bit_is

    -- a ring module, listed after the cells
    pub read-ring : length cxs ≤ j → reads (bit_llr ll Unmasked k b) ≡ bit_of (is_set (get_or bits (m + symbol_bits k * j + b) 0))
    unfolding hue_at symbol from
    read-ring h =
        let e : hue_at bits k m cxs cys j ≡ ring_hue symbol k = rw (le-ltb j (length cxs) h) in
        read_back ll Unmasked k b (hue_at bits k m cxs cys j) y p ∙ ap (bit_of_hue Unmasked k b) e ∙ ring-bit k good symbol b symbol-below ∙ bit_is

-- ---- luma

-- a score that says the level: below zero for light, above zero for dark
pub record Says (level : ℕ) (v : Float) : Type 0 where
  pub is : Num binary32 v
  pub light : level ≡ 1 → 0 < lo binary32 v
  pub dark : level ≡ 0 → 0 < hi binary32 v

says-read : (t : Bool) (v : Float) → Says (bit_of t) v → reads v ≡ bit_of t
unfolding bit_of
says-read true v p = read_one v p.is (p.light refl)
says-read false v p = read-zero v p.is (p.dark refl)

says_other : (t : Bool) (v : Float) → Says (bit_of (xor t true)) v → reads (neg v) ≡ bit_of t
unfolding bit_of xor
says_other true v p = read_one (neg v) (neg-num p.is) (rw (lo_neg binary32 v) (p.dark refl))
says_other false v p = read-zero (neg v) (neg-num p.is) (rw (hi_neg binary32 v) (p.light refl))

turned : (t m : Bool) (v : Float) → Says (bit_of (xor t m)) v → reads (cond m (neg v) v) ≡ bit_of t
turned t true v p = says_other t v p
turned true false v p = says-read true v (unfold xor in p)
turned false false v p = says-read false v (unfold xor in p)

module _ (bits : List ℕ) (xs ys : List ℤ) (g mask i : ℕ) (v : Float) (p : Says (level_at bits xs ys g mask i) v) where
  -- a grid module, unmasked
  pub read-grid : i < g → reads (unmask_at mask xs ys i v) ≡ bit_of (is_set (get_or bits i 0))
  unfolding level_at grid_level unmask_at masked_at
  read-grid h = turned (is_set (get_or bits i 0)) (masked_at mask xs ys i) v (rw (lt-ltb i g h) at p)

  -- a ring module, as it is
  pub read-ring-luma : g ≤ i → reads v ≡ bit_of (is_set (get_or bits i 0))
  unfolding level_at ring_level
  read-ring-luma h = says-read (is_set (get_or bits i 0)) v (rw (le-ltb i g h) at p)
