-- What an accepted call leaves, byte by byte: the front of the slice is the text, whose bytes are known line by line, and the square of a position is that of the last module listed there, since
-- different positions have different squares. Assumes nothing.
use mathlib.Core.Path.{◌≡◌, refl, ap, ◌∙◌}
use mathlib.Core.Bool.{Bool, true, false}
use mathlib.Core.List.{List}
use mathlib.Core.Option.{Option, none, some}
use Prim.Native.Nat.{ℕ, zero, suc, ◌+◌, ◌-◌, ◌*◌, ◌/◌, ◌%◌, ◌≤◌, ◌<◌}
use native.Mathlib.Omega.{arith}
use borrow.Author.Tests.{ltb-true, ltb-false, eq-eqb, ne_eqb}
use lib.Dec.{ltb}
use lib.IntN.{pos}
use lib.ListN.{length, get_or}
use lib.Ieee.{Float, nan}
use Rattle.answers.proofs.Answers.{list_done, list-refused}
use Rattle.places.specs.Places.{index_of, square_of}
use Rattle.places.specs.Last.{stands_at, last_at}
use Rattle.places.proofs.Last.{is_last, is_none}
use Rattle.reading.specs.Read.{reads}
use Rattle.page.specs.Lines.{columns, page_length, field_columns, shown, square_byte}
use Rattle.page.specs.Steps.{field_byte}
use Rattle.page.specs.Calls.{Request, numbers_of, modules_of, text_of, laid_out_bytes, sentences_of, page_of}
use Rattle.page.specs.Laws.{StandsAt, LastThere, byte_at, digit_at, Page, Pages}
use Rattle.page.proofs.Fields.{byte-digit, byte_last, byte-space, byte_no_feed}
use Rattle.page.proofs.Text.{Numbers, five-numbers, text-length, text_head, text-square, text-padding, text_end}
use Rattle.page.proofs.Laid.{square-position, position-square, overlaid-length, overlaid-text, overlaid-rest}
use Rattle.page.proofs.Passed.{terms_in}
use Rattle.page.proofs.Accepted.{Accepted, accepted, each_placed}

shown_no_feed : (luma : List Float) (o : Option ℕ) → 46 ≤ shown luma o
unfolding shown
shown_no_feed luma none = omega arith
shown_no_feed luma (some i) = omega arith

module _ (q : Request) (a : Accepted q) (left : (page_of q).list ≡ laid_out_bytes q) where
  in_ten : Numbers (numbers_of q)
  in_ten =
      five-numbers q.side q.terms q.kept q.rejected q.held (omega (arith, a.narrow)) (omega (arith, terms_in q.terms a.terms-good)) (omega (arith, a.tally.0))
      (omega (arith, a.tally.1)) (omega (arith, a.tally.2))

  long-text : length (text_of q) ≡ page_length q.side
  long-text = text-length (modules_of q) a.narrow (numbers_of q) in_ten

  room : length (text_of q) ≤ length q.page
  room = omega (arith, long-text, a.long.room)

  front : (p : ℕ) → p < page_length q.side → get_or (page_of q).list p 0 ≡ get_or (text_of q) p 0
  front p l = ap (λ (s : List ℕ). get_or s p 0) left ∙ overlaid-text (text_of q) q.page room p (omega (arith, long-text))

  -- ---- line one

  digit_is : (j k : ℕ) → j < 5 → k < field_columns → digit_at q j k ≡ field_byte k (get_or (numbers_of q) j 0)
  digit_is j k hj hk =
      front (51 * 0 + (10 * j + (9 - k))) (omega (arith, a.narrow))
      ∙ ap (λ (p : ℕ). get_or (text_of q) p 0) (let z : 51 * 0 + (10 * j + (9 - k)) ≡ 10 * j + (9 - k) = omega arith in z)
      ∙ text_head (modules_of q) a.narrow (numbers_of q) in_ten (10 * j + (9 - k)) (omega arith)
      ∙ ap (λ (n : ℕ). field_byte n (get_or (numbers_of q) ((10 * j + (9 - k)) / 10) 0)) (let z : 9 - (10 * j + (9 - k)) % 10 ≡ k = omega arith in z)
      ∙ ap (λ (n : ℕ). field_byte k (get_or (numbers_of q) n 0)) (let z : (10 * j + (9 - k)) / 10 ≡ j = omega arith in z)

  -- ---- line feeds

  square_is : (x y : ℕ) → x < q.side → y < q.side → byte_at q (y + 1) x ≡ square_byte (modules_of q) x y
  square_is x y hx hy = front (51 * (y + 1) + x) (omega (arith, a.narrow)) ∙ text-square (modules_of q) a.narrow (numbers_of q) in_ten x y hx hy

  padding_is : (x y : ℕ) → y < q.side → q.side ≤ x → x < columns → byte_at q (y + 1) x ≡ 32
  padding_is x y hy hx l = front (51 * (y + 1) + x) (omega arith) ∙ text-padding (modules_of q) a.narrow (numbers_of q) in_ten x y hy hx l

  row_no_feed : (x y : ℕ) → y < q.side → x < columns → (b : Bool) → ltb x q.side ≡ b → 32 ≤ byte_at q (y + 1) x
  row_no_feed x y hy hx true e =
      let l = ltb-true x q.side e in
      omega (arith, square_is x y l hy, shown_no_feed q.luma (last_at (square_of q.side q.xs q.ys) (length q.xs) (index_of q.side (pos x) (pos y))))
  row_no_feed x y hy hx false e = omega (arith, padding_is x y hy (ltb-false x q.side e) hx)

  no_feed : (k c : ℕ) → k ≤ q.side → c < columns → 32 ≤ byte_at q k c
  no_feed zero c hk hc =
      let e = front (51 * 0 + c) (omega arith) ∙ ap (λ (p : ℕ). get_or (text_of q) p 0) (let z : 51 * 0 + c ≡ c = omega arith in z) ∙ text_head (modules_of q) a.narrow (numbers_of q) in_ten c hc in
      omega (arith, e, byte_no_feed (9 - c % 10) (get_or (numbers_of q) (c / 10) 0))
  no_feed (suc y) c hk hc =
      let e : byte_at q (suc y) c ≡ byte_at q (y + 1) c = ap (λ (n : ℕ). byte_at q n c) (let z : suc y ≡ y + 1 = omega arith in z) in
      omega (arith, e, row_no_feed c y hk hc (ltb c q.side) refl)

  -- ---- squares

  module _ (x y : ℕ) (hx : x < q.side) (hy : y < q.side) where
    abbrev here : ℕ → Bool
    here = stands_at (square_of q.side q.xs q.ys) (index_of q.side (pos x) (pos y))

    standing : (i : ℕ) → StandsAt q x y i → here i ≡ true
    standing i s =
        eq-eqb (square_of q.side q.xs q.ys i) (index_of q.side (pos x) (pos y))
        (position-square (modules_of q) q.grid i a.positions.side-most (each_placed q a i s.listed) x y hx hy s.column s.row)

    elsewhere : (i : ℕ) → i < length q.xs → (StandsAt q x y i → ⊥) → here i ≡ false
    elsewhere i l h =
        ne_eqb (square_of q.side q.xs q.ys i) (index_of q.side (pos x) (pos y))
        (λ e. let p = square-position (modules_of q) q.grid i a.positions.side-most (each_placed q a i l) x y hx hy e in h (record { listed = l; column = p.0; row = p.1 }))

    square_last : (i : ℕ) → LastThere q x y i → byte_at q (y + 1) x ≡ 48 + reads (get_or q.luma i nan)
    unfolding shown
    square_last i s =
        square_is x y hx hy
        ∙ ap (shown q.luma)
        (is_last here (length q.xs) i (record { below = s.stands.listed; holds = standing i s.stands; later = λ j l m. elsewhere j m (s.no_later j l) }))

    square-dot : ((i : ℕ) → StandsAt q x y i → ⊥) → byte_at q (y + 1) x ≡ 46
    unfolding shown
    square-dot h = square_is x y hx hy ∙ ap (shown q.luma) (is_none here (length q.xs) (λ j l. elsewhere j l (h j)))

  page_is : Page q
  page_is =
      record {
        long = ap length left ∙ overlaid-length (text_of q) q.page room;
        rest = λ k l. ap (λ (s : List ℕ). get_or s k 0) left ∙ overlaid-rest (text_of q) q.page room k (omega (arith, long-text));
        line-feed = λ k l. front (51 * k + 50) (omega arith) ∙ text_end (modules_of q) a.narrow (numbers_of q) in_ten k l;
        no_other = λ k c l m e. omega (arith, no_feed k c l m);
        digit = λ j k hj hk h. digit_is j k hj hk ∙ byte-digit k (get_or (numbers_of q) j 0) h;
        last_digit = λ j hj. digit_is j 0 hj (omega arith) ∙ byte_last (get_or (numbers_of q) j 0);
        space = λ j k hj z hk h. digit_is j k hj hk ∙ byte-space k (get_or (numbers_of q) j 0) z h;
        square = λ x y i hx hy s. square_last x y hx hy i s;
        dot = λ x y hx hy h. square-dot x y hx hy h;
        padding = padding_is;
      }

-- ---- every call

done_is : (q : Request) → (page_of q).number ≡ 0 → Page q
unfolding page_of
done_is q h =
    let d = list_done (sentences_of q) q.page (laid_out_bytes q) h in
    page_is q (accepted q 0 d.0 refl) d.1

refused_is : (q : Request) (n : ℕ) → (n ≡ 0 → ⊥) → (page_of q).number ≡ n → (page_of q).list ≡ q.page
unfolding page_of
refused_is q n z h = (list-refused (sentences_of q) q.page (laid_out_bytes q) n z h).1

pub pages : Pages
pages = record { done = done_is; refused = refused_is }
