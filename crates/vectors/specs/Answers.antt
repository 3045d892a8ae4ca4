-- Rows of words, what they stand for, and how two of them are compared and counted. Definitions only.
use Rattle.std.specs.Prelude.{ℕ, Option, None, Some, unwrap_or, ◌+◌, ◌-◌, ◌*◌, ◌/◌, ◌%◌, ◌^◌, Bool, cond, ◌&&◌, List, length, take, replicate, ◌==◌, nat_le, nat_lt, slice_index, slice_set, fold, take_while, zip}
use Rattle.std.specs.Option.{is_some, option_and_then}
use Rattle.loops.specs.Loops.{for_up}
use Rattle.vectors.specs.declared.Record.{Record}
use Rattle.vectors.specs.declared.Compared.{Compared}
use Rattle.vectors.specs.declared.Tally.{Tally}

-- a row with the place that the next word goes to
pub record Placed : Type 0 where
  pub place : ℕ
  pub row : List ℕ

abbrev pub placed : ℕ → List ℕ → Placed
placed at row = record { place = at; row = row }

-- a row of 4096 words with none put yet
unfoldable pub no_answers : Placed
no_answers = placed 0 (replicate 4096 0)

-- a word put at the next place, where the row has room
unfoldable pub put : ℕ → Placed → Placed
put w p = cond (nat_lt p.place (length p.row)) (placed (p.place + 1) (slice_set p.row p.place w)) p

-- how many words two lists share, from the first on
abbrev pub shared_front : List ℕ → List ℕ → ℕ
shared_front got wanted = length (take_while (λ p. p.0 == p.1) (zip got wanted))

-- ---- comparing

-- the function's number, if the line is whole and the number is below 31
unfoldable pub known_of : Option ℕ → Bool → Option ℕ
known_of function whole = option_and_then (λ f. cond (whole && nat_lt f 31) (Some f) None) function

unfoldable pub agree_of : Record → List ℕ → List ℕ → ℕ → ℕ
agree_of r wanted got n = shared_front (take n got) (take r.answers wanted)

-- the first n words of `got` beside the answers of a record whose line begins at `at`
unfoldable pub compared_of : Option ℕ → ℕ → Record → List ℕ → List ℕ → ℕ → Compared
compared_of f at r wanted got n =
    record {
      number = 0;
      at = at;
      function = known_of f r.whole;
      agree = agree_of r wanted got n;
      answers = n;
      due = r.answers;
      got = slice_index got (agree_of r wanted got n);
      wanted = slice_index wanted (agree_of r wanted got n);
    }

-- read, and every answer is the one wanted
unfoldable pub same_of : Compared → Bool
same_of c = is_some c.function && (c.agree == c.answers && c.agree == c.due)

-- where the counts of a tally have the record: at its function's number, and at 31 where it is not read
abbrev pub place_of : Compared → ℕ
place_of c = unwrap_or c.function 31

-- ---- counting

unfoldable pub no_record : Compared
no_record = record { number = 0; at = 0; function = None; agree = 0; answers = 0; due = 0; got = 0; wanted = 0 }

unfoldable pub nothing_met : Tally
nothing_met = record { records = 0; compared = replicate 32 0; differ = replicate 32 0; kept = 0; first = replicate 8 no_record }

-- a count with one more, to 64 bits
abbrev pub one_larger : ℕ → ℕ
one_larger n = (n + 1) % 2 ^ 64

-- one more at a place, of 32
unfoldable pub one_more_at : List ℕ → ℕ → List ℕ
one_more_at counts at = cond (nat_lt at 32) (slice_set counts at (one_larger (slice_index counts at))) counts

unfoldable pub numbered_of : Compared → ℕ → Compared
numbered_of c n =
    record
    { number = n; at = c.at; function = c.function; agree = c.agree; answers = c.answers; due = c.due; got = c.got; wanted = c.wanted }

-- one more record, counted for its function
unfoldable pub agreed_of : Tally → Compared → Tally
agreed_of t c = record { records = one_larger t.records; compared = one_more_at t.compared (place_of c); differ = t.differ; kept = t.kept; first = t.first }

-- one more of those that differ: counted for its function, and kept while there are fewer than eight
unfoldable pub differing_of : Tally → Compared → Tally
differing_of t c =
    record {
      records = t.records;
      compared = t.compared;
      differ = one_more_at t.differ (place_of c);
      kept = cond (nat_le 8 t.kept) t.kept (t.kept + 1);
      first = cond (nat_le 8 t.kept) t.first (slice_set t.first t.kept (numbered_of c t.records));
    }

unfoldable pub counted_of : Tally → Compared → Tally
counted_of t c = cond (same_of c) (agreed_of t c) (differing_of (agreed_of t c) c)

-- all counts but the last, to 64 bits
abbrev pub total_of : List ℕ → ℕ
total_of counts = fold (λ sum n. (sum + n) % 2 ^ 64) 0 (take 31 counts)

-- ---- printing

-- `0` to `9`, `A` to `F`
unfoldable pub glyph_of : ℕ → ℕ
glyph_of d = cond (nat_lt d 10) (d + 48) (d - 10 + 65)

-- digit k of a word, from the left: that of the four bits from bit 60 - 4 k on
unfoldable pub hex_at : ℕ → ℕ → List ℕ → List ℕ
hex_at w k out = slice_set out k (glyph_of (w / 2 ^ (60 - 4 * k) % 16))

-- the sixteen digits of a word
abbrev pub hex_of : ℕ → List ℕ
hex_of w = for_up 0 16 (hex_at w) (replicate 16 0)
