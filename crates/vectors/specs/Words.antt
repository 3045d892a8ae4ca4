-- The words of a record: hexadecimal digits after a space. Definitions only.
use Rattle.std.specs.Prelude.{ℕ, ◌+◌, ◌-◌, ◌*◌, ◌%◌, Bool, false, cond, ◌&&◌, Option, None, Some, List, [], ◌∷◌, length, drop, ◌==◌, nat_le, nat_lt, slice_set}
use Rattle.std.specs.Option.{option_map_or}
use Rattle.loops.specs.Loops.{Turn, go, out, for_try}
use Rattle.vectors.specs.Lines.{byte_at, name_end}
use Rattle.vectors.specs.declared.Digits.{Digits}
use Rattle.vectors.specs.declared.Record.{Record}

-- the value of `0` to `9` and `A` to `F`
unfoldable pub digit_of : ℕ → Option ℕ
digit_of b = cond (nat_le 48 b && nat_le b 57) (Some (b - 48)) (cond (nat_le 65 b && nat_le b 70) (Some (b - 65 + 10)) None)

-- the digits in front of a text that begins at place i, after digits that spell v: the number that all of them spell, of which the last
-- sixteen count, and the place where they end
unfoldable pub spelled : ℕ → ℕ → List ℕ → Digits
unfolding digit_of
spelled v i [] = record { value = v; end = i }
spelled v i (b ∷ bs) = option_map_or (λ d. spelled (v % 0x1000_0000_0000_0000 * 16 + d) (i + 1) bs) (digit_of b) (record { value = v; end = i })

-- the digits from `at` on
unfoldable pub digits_from : List ℕ → ℕ → Digits
digits_from text at = spelled 0 at (drop at text)

-- the word that digits from place `from` on make, if they are 1 to 16
unfoldable pub word_of : ℕ → Digits → Option Digits
word_of from d = cond (nat_lt from d.end && nat_le d.end (from + 16)) (Some d) None

-- a space and a word
unfoldable pub word_from : List ℕ → ℕ → Option Digits
word_from text at = cond (byte_at text at == 32) (word_of (at + 1) (digits_from text (at + 1))) None

-- a run of words: how many, where they end in the text, and the row that they were put into
pub record Words : Type 0 where
  pub count : ℕ
  pub end : ℕ
  pub row : List ℕ

abbrev pub words_of : ℕ → ℕ → List ℕ → Words
words_of n e row = record { count = n; end = e; row = row }

-- word k of a run, if there is one
unfoldable pub took : ℕ → Words → Option Digits → Turn Words Words
took k s (Some w) = go (words_of (k + 1) w.end (slice_set s.row k w.value))
took k s None = out s

unfoldable pub ended : Turn Words Words → Words
ended (go s) = s
ended (out s) = s

unfoldable pub take_word : List ℕ → ℕ → Words → Turn Words Words
take_word text k s = took k s (word_from text s.end)

-- the words from `at` on, as many as the row holds
unfoldable pub words_from : List ℕ → ℕ → List ℕ → Words
words_from text at row = ended (for_try 0 (length row) (take_word text) (words_of 0 at row))

-- a space and `=`
unfoldable pub equals_at : List ℕ → ℕ → Bool
equals_at text at = byte_at text at == 32 && byte_at text (at + 1) == 61

-- a record with the rows of its inputs and its answers
pub record Rows : Type 0 where
  pub read : Record
  pub ins : List ℕ
  pub outs : List ℕ

abbrev pub rows_of : Record → List ℕ → List ℕ → Rows
rows_of r ins outs = record { read = r; ins = ins; outs = outs }

-- a line with no `=` after its inputs
unfoldable pub cut : Words → List ℕ → Rows
cut i outs = rows_of (record { inputs = i.count; answers = 0; whole = false }) i.row outs

unfoldable pub joined : List ℕ → Words → Words → Rows
joined text i o = rows_of (record { inputs = i.count; answers = o.count; whole = (byte_at text o.end == 10) }) i.row o.row

unfoldable pub after_inputs : List ℕ → Words → List ℕ → Rows
after_inputs text i outs = cond (equals_at text i.end) (joined text i (words_from text (i.end + 2) outs)) (cut i outs)

-- `NAME WORD .. = WORD ..` and a line feed
unfoldable pub record_from : List ℕ → ℕ → List ℕ → List ℕ → Rows
record_from text at ins outs = after_inputs text (words_from text (name_end text at) ins) outs
