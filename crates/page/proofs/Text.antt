-- The page's text, byte by byte: a line's place is its number times 51, the first line holds the numbers' fields, and a row's columns are its squares. Assumes nothing.
use mathlib.Core.Path.{◌≡◌, refl, ap, ◌∙◌}
use mathlib.Core.List.{List, [], ◌∷◌}
use Prim.Native.Nat.{ℕ, zero, suc, ◌+◌, ◌-◌, ◌*◌, ◌/◌, ◌%◌, ◌^◌, ◌≤◌, ◌<◌}
use native.Mathlib.Omega.{arith}
use lib.ListN.{length, get_or, length-append, get_or-append}
use Rattle.listing.specs.Text.{lines_below}
use Rattle.page.specs.Lines.{columns, page_length, field_columns, field_at, head_line, Modules, square_byte, square_at, row_line, page_text}
use Rattle.page.specs.Steps.{field_byte, place_of}
use Rattle.page.proofs.Pieces.{behind, pieces-length, piece_at, line-length, line-text, line-padding, line-end}
use Rattle.page.proofs.Fields.{field-length, field-at}

-- every number has at most ten digits, and their fields fill line one
pub record Numbers (numbers : List ℕ) : Type 0 where
  pub five : length numbers ≡ 5
  pub small : (j : ℕ) → get_or numbers j 0 < 10 ^ field_columns

pub five-numbers : (a b c d e : ℕ) → a < 10 ^ field_columns → b < 10 ^ field_columns → c < 10 ^ field_columns → d < 10 ^ field_columns → e < 10 ^ field_columns →
    Numbers (a ∷ b ∷ c ∷ d ∷ e ∷ [])
five-numbers a b c d e ha hb hc hd he = record { five = refl; small = each }
  where
    each : (j : ℕ) → get_or (a ∷ b ∷ c ∷ d ∷ e ∷ []) j 0 < 10 ^ field_columns
    each zero = ha
    each (suc zero) = hb
    each (suc (suc zero)) = hc
    each (suc (suc (suc zero))) = hd
    each (suc (suc (suc (suc zero)))) = he
    each (suc (suc (suc (suc (suc j))))) = omega arith

-- ---- line one

module _ (numbers : List ℕ) (h : Numbers numbers) where
  wide : (j : ℕ) → length (field_at numbers j) ≡ field_columns
  wide j = field-length (get_or numbers j 0) (h.small j)

  fields-length : length (lines_below (field_at numbers) (length numbers)) ≡ columns
  fields-length = pieces-length (field_at numbers) field_columns wide (length numbers) ∙ omega (arith, h.five)

  head_length : length (head_line numbers) ≡ columns + 1
  head_length = line-length (lines_below (field_at numbers) (length numbers)) (omega (arith, fields-length))

  head_at : (c : ℕ) → c < columns → get_or (head_line numbers) c 0 ≡ field_byte (field_columns - 1 - c % field_columns) (get_or numbers (c / field_columns) 0)
  head_at c l =
      line-text (lines_below (field_at numbers) (length numbers)) (omega (arith, fields-length)) c (omega (arith, fields-length))
      ∙ piece_at (field_at numbers) field_columns wide (length numbers) (c / 10) (c % 10) c (omega (arith, h.five)) (omega arith) (omega arith)
      ∙ field-at (get_or numbers (c / 10) 0) (h.small (c / 10)) (9 - c % 10) (c % 10) (omega arith)

  head_end : get_or (head_line numbers) columns 0 ≡ 10
  head_end = line-end (lines_below (field_at numbers) (length numbers)) (omega (arith, fields-length))

-- ---- a row

module _ (m : Modules) (narrow : m.side ≤ columns) where
  row-fields : (y : ℕ) → length (lines_below (square_at m y) m.side) ≡ m.side
  row-fields y = pieces-length (square_at m y) 1 (λ j. refl) m.side ∙ omega arith

  row_fits : (y : ℕ) → length (lines_below (square_at m y) m.side) ≤ columns
  row_fits y = omega (arith, row-fields y)

  row-length : (y : ℕ) → length (row_line m y) ≡ columns + 1
  row-length y = line-length (lines_below (square_at m y) m.side) (row_fits y)

  row-square : (x y : ℕ) → x < m.side → get_or (row_line m y) x 0 ≡ square_byte m x y
  row-square x y l =
      line-text (lines_below (square_at m y) m.side) (row_fits y) x (omega (arith, row-fields y))
      ∙ piece_at (square_at m y) 1 (λ j. refl) m.side x 0 x l (omega arith) (omega arith)

  row-padding : (x y : ℕ) → m.side ≤ x → x < columns → get_or (row_line m y) x 0 ≡ 32
  row-padding x y l n = line-padding (lines_below (square_at m y) m.side) (row_fits y) x (omega (arith, row-fields y)) n

  row_end : (y : ℕ) → get_or (row_line m y) columns 0 ≡ 10
  row_end y = line-end (lines_below (square_at m y) m.side) (row_fits y)

  -- ---- the page

  module _ (numbers : List ℕ) (h : Numbers numbers) where
    pub text-length : length (page_text numbers m) ≡ page_length m.side
    unfolding page_text
    text-length =
        length-append (head_line numbers) (lines_below (row_line m) m.side)
        ∙ omega (arith, head_length numbers h, pieces-length (row_line m) (columns + 1) row-length m.side)

    pub text_head : (c : ℕ) → c < columns → get_or (page_text numbers m) c 0 ≡ field_byte (field_columns - 1 - c % field_columns) (get_or numbers (c / field_columns) 0)
    unfolding page_text
    text_head c l = get_or-append (head_line numbers) (lines_below (row_line m) m.side) 0 c (omega (arith, head_length numbers h)) ∙ head_at numbers h c l

    row_at : (x y : ℕ) → y < m.side → x < columns + 1 → get_or (page_text numbers m) (place_of x y) 0 ≡ get_or (row_line m y) x 0
    unfolding page_text
    row_at x y l n =
        behind (head_line numbers) (lines_below (row_line m) m.side) (51 * y + x) (place_of x y) (omega (arith, head_length numbers h))
        ∙ piece_at (row_line m) (columns + 1) row-length m.side y x (51 * y + x) l n refl

    pub text-square : (x y : ℕ) → x < m.side → y < m.side → get_or (page_text numbers m) (place_of x y) 0 ≡ square_byte m x y
    text-square x y l n = row_at x y n (omega arith) ∙ row-square x y l

    pub text-padding : (x y : ℕ) → y < m.side → m.side ≤ x → x < columns → get_or (page_text numbers m) (place_of x y) 0 ≡ 32
    text-padding x y l n o = row_at x y l (omega arith) ∙ row-padding x y n o

    pub text_end : (k : ℕ) → k ≤ m.side → get_or (page_text numbers m) ((columns + 1) * k + columns) 0 ≡ 10
    unfolding page_text
    text_end zero l = get_or-append (head_line numbers) (lines_below (row_line m) m.side) 0 columns (omega (arith, head_length numbers h)) ∙ head_end numbers h
    text_end (suc y) l = ap (λ (p : ℕ). get_or (page_text numbers m) p 0) (let z : 51 * suc y + 50 ≡ place_of 50 y = omega arith in z) ∙ row_at columns y l (omega arith) ∙ row_end y
