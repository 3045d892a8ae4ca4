-- The reflected binary code, and the symbols and hues that it pairs (the Rust's symbol.rs). Definitions only.
use Rattle.std.specs.Prelude.{ℕ, zero, suc, ◌/◌, ◌%◌}
use Rattle.std.specs.Int.Bits.{bit_xor}

-- n xor n/2: two numbers in turn differ in one bit of it
unfoldable pub gray : ℕ → ℕ
gray n = bit_xor n (n / 2)

-- g xor g/2 xor g/4 .., until nothing is left; k is at least the number of g's bits
unfoldable pub xor_shifts : ℕ → ℕ → ℕ
xor_shifts zero g = 0
xor_shifts (suc k) zero = 0
xor_shifts (suc k) (suc g) = bit_xor (suc g) (xor_shifts k (suc g / 2))

unfoldable pub gray_inverse : ℕ → ℕ
unfolding xor_shifts
gray_inverse g = xor_shifts g g

-- the hue state that a symbol is drawn in, of k hues
unfoldable pub chroma_symbol_to_hue : ℕ → ℕ → ℕ
chroma_symbol_to_hue s k = gray_inverse (s % k) % k

-- the symbol that a hue state stands for, of k hues
unfoldable pub hue_to_chroma_symbol : ℕ → ℕ → ℕ
hue_to_chroma_symbol h k = gray (h % k) % k
