-- What holds of the page that an accepted call leaves, byte by byte. `proofs/Bytes.antt` proves it. Definitions only.
use Rattle.std.specs.Prelude.{◌≡◌, ℕ, ◌+◌, ◌-◌, ◌*◌, ◌/◌, ◌%◌, ◌^◌, ◌≤◌, ◌<◌, pos, length, get_or}
use Rattle.std.specs.Float.{nan}
use Rattle.reading.specs.Read.{reads}
use Rattle.page.specs.Lines.{columns, field_columns, page_length}
use Rattle.page.specs.Calls.{Request, numbers_of, page_of}

-- module i is listed at column x of row y
pub record StandsAt (q : Request) (x y i : ℕ) : Type 0 where
  pub listed : i < length q.xs
  pub column : get_or q.xs i (pos 0) ≡ pos x
  pub row : get_or q.ys i (pos 0) ≡ pos y

-- and none after it is
pub record LastThere (q : Request) (x y i : ℕ) : Type 0 where
  pub stands : StandsAt q x y i
  pub no_later : (j : ℕ) → i < j → StandsAt q x y j → ⊥

-- byte c of line k; line 0 is that of the numbers, and row y is line y + 1
abbrev pub byte_at : Request → ℕ → ℕ → ℕ
byte_at q k c = get_or (page_of q).list ((columns + 1) * k + c) 0

-- the byte of number j of line one that is k places from the right end of its ten columns
abbrev pub digit_at : Request → ℕ → ℕ → ℕ
digit_at q j k = byte_at q 0 (field_columns * j + (field_columns - 1 - k))

pub record Page (q : Request) : Type 0 where
  -- the slice keeps its length, and from 51 × (side + 1) on its bytes
  pub long : length (page_of q).list ≡ length q.page
  pub rest : (k : ℕ) → page_length q.side ≤ k → get_or (page_of q).list k 0 ≡ get_or q.page k 0
  -- each of the side + 1 lines has 50 columns and then its only line feed
  pub line-feed : (k : ℕ) → k ≤ q.side → byte_at q k columns ≡ 10
  pub no_other : (k c : ℕ) → k ≤ q.side → c < columns → byte_at q k c ≡ 10 → ⊥
  -- line one: the digits of the side, the terms, kept, rejected and the modules that have a mark, the last of each in its tenth column, with spaces before the first. 0 has one digit
  pub digit : (j k : ℕ) → j < 5 → k < field_columns → 10 ^ k ≤ get_or (numbers_of q) j 0 → digit_at q j k ≡ 48 + get_or (numbers_of q) j 0 / 10 ^ k % 10
  pub last_digit : (j : ℕ) → j < 5 → digit_at q j 0 ≡ 48 + get_or (numbers_of q) j 0 % 10
  pub space : (j k : ℕ) → j < 5 → 0 < k → k < field_columns → get_or (numbers_of q) j 0 < 10 ^ k → digit_at q j k ≡ 32
  -- a square shows how the last module that is listed there reads, and a dot where none is
  pub square : (x y i : ℕ) → x < q.side → y < q.side → LastThere q x y i → byte_at q (y + 1) x ≡ 48 + reads (get_or q.luma i nan)
  pub dot : (x y : ℕ) → x < q.side → y < q.side → ((i : ℕ) → StandsAt q x y i → ⊥) → byte_at q (y + 1) x ≡ 46
  -- right of the grid there are spaces
  pub padding : (x y : ℕ) → y < q.side → q.side ≤ x → x < columns → byte_at q (y + 1) x ≡ 32

-- of every call: done, or refused by a number with nothing written
pub record Pages : Type 0 where
  pub done : (q : Request) → (page_of q).number ≡ 0 → Page q
  pub refused : (q : Request) (n : ℕ) → (n ≡ 0 → ⊥) → (page_of q).number ≡ n → (page_of q).list ≡ q.page
