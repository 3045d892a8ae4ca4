-- The listing of document 01, as a list of bytes (ASCII). Definitions only.
use Rattle.std.specs.Prelude.{cond, List, [], ◌∷◌, ◌++◌, ℕ, zero, suc, ◌+◌, ◌-◌, ◌/◌, ◌%◌, ltb, ℤ, pos, negsuc, get_or, Float}
use Rattle.std.specs.Float.{nan, binary32}
use Rattle.std.specs.Float.Ieee.{to_bits}
use Rattle.listing.specs.Text.{row, lines_below}

-- ---- numbers

-- n in decimal, of at most k digits
unfoldable pub digits : ℕ → ℕ → List ℕ
digits zero n = []
digits (suc k) n = cond (ltb n 10) ((48 + n) ∷ []) (digits k (n / 10) ++ ((48 + n % 10) ∷ []))

-- n in decimal: n + 1 digits are always enough
unfoldable pub decimal : ℕ → List ℕ
decimal n = digits (suc n) n

-- signed decimal: 45 is '-'
unfoldable pub signed : ℤ → List ℕ
signed (pos n) = decimal n
signed (negsuc n) = 45 ∷ decimal (suc n)

-- '0' to '9', then 'A' to 'F'
unfoldable pub hex_digit : ℕ → ℕ
hex_digit d = cond (ltb d 10) (48 + d) (65 + (d - 10))

-- the last k hexadecimal digits of n
unfoldable pub hex : ℕ → ℕ → List ℕ
hex zero n = []
hex (suc k) n = hex k (n / 16) ++ (hex_digit (n % 16) ∷ [])

-- ---- lines

abbrev pub space : List ℕ
space = 32 ∷ []

abbrev pub line_feed : List ℕ
line_feed = 10 ∷ []

-- ` HHHHHHHH b` and the line feed: the score's bit pattern, and the bit. (`to_bits` of a NaN is 7FC00000.)
unfoldable pub score_end : Float → ℕ → List ℕ
score_end score bit = row (space ∷ hex 8 (to_bits binary32 score) ∷ space ∷ decimal bit ∷ line_feed ∷ [])

-- `fit T K R`: terms, kept, rejected
unfoldable pub fit_line : ℕ → ℕ → ℕ → List ℕ
fit_line terms kept rejected =
    row ((102 ∷ 105 ∷ 116 ∷ 32 ∷ []) ∷ decimal terms ∷ space ∷ decimal kept ∷ space ∷ decimal rejected ∷ line_feed ∷ [])

-- `L x y HHHHHHHH b`
unfoldable pub luma_line : ℤ → ℤ → Float → ℕ → List ℕ
luma_line x y score bit = row ((76 ∷ 32 ∷ []) ∷ signed x ∷ space ∷ signed y ∷ score_end score bit ∷ [])

-- `C i HHHHHHHH b`
unfoldable pub chroma_line : ℕ → Float → ℕ → List ℕ
chroma_line place score bit = row ((67 ∷ 32 ∷ []) ∷ decimal place ∷ score_end score bit ∷ [])

abbrev pub luma_line_at : List ℤ → List ℤ → List Float → List ℕ → ℕ → List ℕ
luma_line_at xs ys scores bits i = luma_line (get_or xs i (pos 0)) (get_or ys i (pos 0)) (get_or scores i nan) (get_or bits i 0)

abbrev pub luma_lines : ℕ → List ℤ → List ℤ → List Float → List ℕ → List ℕ
luma_lines modules xs ys scores bits = lines_below (luma_line_at xs ys scores bits) modules

abbrev pub chroma_line_at : List Float → List ℕ → ℕ → List ℕ
chroma_line_at scores bits i = chroma_line i (get_or scores i nan) (get_or bits i 0)

abbrev pub chroma_lines : ℕ → List Float → List ℕ → List ℕ
chroma_lines places scores bits = lines_below (chroma_line_at scores bits) places

-- ---- the listing

-- the fit line, a line for each module, a line for each place of the chroma score list
unfoldable pub listing : ℕ → ℕ → ℕ → ℕ → List ℤ → List ℤ → List Float → List ℕ → ℕ → List Float → List ℕ → List ℕ
listing terms kept rejected modules xs ys luma bits places chroma symbols =
    row (fit_line terms kept rejected ∷ luma_lines modules xs ys luma bits ∷ chroma_lines places chroma symbols ∷ [])

-- `refused N`
unfoldable pub refused_line : ℕ → List ℕ
refused_line number = row ((114 ∷ 101 ∷ 102 ∷ 117 ∷ 115 ∷ 101 ∷ 100 ∷ 32 ∷ []) ∷ decimal number ∷ line_feed ∷ [])
