-- Every byte as it is without modules, then each module's digit in list order, is the text: a later module writes over an earlier one at its position, nobody else writes there, since different
-- positions have different places, and nothing but squares of the grid is written. Assumes nothing.
use mathlib.Core.Path.{◌≡◌, refl, sym, ap, ◌∙◌}
use mathlib.Core.Bool.{Bool, true, false, cond}
use mathlib.Core.List.{List}
use mathlib.Core.Option.{some}
use Prim.Native.Nat.{ℕ, suc, ◌+◌, ◌-◌, ◌*◌, ◌/◌, ◌%◌, ◌≤◌, ◌<◌}
use native.Mathlib.Omega.{arith}
use borrow.Author.Tests.{eqb-true, eqb-false, eq-eqb, ne_eqb, ltb-true, ltb-false, lt-ltb, le-ltb}
use lib.Dec.{eqb, ltb}
use lib.IntN.{pos, nat_abs}
use lib.ListN.{length, get_or, set, drop, length-set, length-append, length-drop, get_or-append}
use lib.Seq.{get_or-set_same, get_or-set_other, get_or-drop, ext_get_or}
use lib.Ieee.{nan}
use Rattle.loops.proofs.Laws.{for_up_to}
use Rattle.lists.proofs.Laws.{Reached, reached}
use Rattle.sentences.proofs.Laws.{neither}
use Rattle.places.specs.Places.{outside, off_grid, misplaced_at, index_of, square_of}
use Rattle.places.specs.Last.{last_where, last_at}
use Rattle.places.proofs.Placed.{in_ring, grid_in_ring, on_grid, grid-position}
use Rattle.places.proofs.Squares.{index_one}
use Rattle.reading.specs.Read.{reads}
use Rattle.page.specs.Lines.{columns, page_length, field_columns, shown, Modules, page_text, overlaid}
use Rattle.page.specs.Steps.{field_byte, blank_byte, blank_at, blank_page, place_of, show_score, show_at, show_all}
use Rattle.page.proofs.Pieces.{behind}
use Rattle.page.proofs.Text.{Numbers, text-length, text_head, text-square, text-padding, text_end}

-- ---- a module and a square of the grid

-- module i of the list stands at column x of row y exactly where its square is theirs
module _ (m : Modules) (g i : ℕ) (s : m.side ≤ 1024) (h : misplaced_at m.side g m.xs m.ys i ≡ false) (x y : ℕ) (hx : x < m.side) (hy : y < m.side) where
  pub square-position : square_of m.side m.xs m.ys i ≡ index_of m.side (pos x) (pos y) → (get_or m.xs i (pos 0) ≡ pos x) × (get_or m.ys i (pos 0) ≡ pos y)
  square-position e =
      let p = in_ring m.side g i (get_or m.xs i (pos 0)) (get_or m.ys i (pos 0)) h in
      index_one m.side (get_or m.xs i (pos 0)) (get_or m.ys i (pos 0)) (pos x) (pos y) s p.0 p.1
      (grid_in_ring m.side (pos x) (grid-position m.side x hx))
      (grid_in_ring m.side (pos y) (grid-position m.side y hy))
      e

  pub position-square : get_or m.xs i (pos 0) ≡ pos x → get_or m.ys i (pos 0) ≡ pos y → square_of m.side m.xs m.ys i ≡ index_of m.side (pos x) (pos y)
  position-square e f = rw (e, f)

  -- a module that stands there is on the grid
  there_on : square_of m.side m.xs m.ys i ≡ index_of m.side (pos x) (pos y) → off_grid m.side (get_or m.xs i (pos 0)) (get_or m.ys i (pos 0)) ≡ false
  there_on e =
      let p = square-position e in
      rw (p.0, p.1, grid-position m.side x hx) (grid-position m.side y hy)

-- ---- the modules, one after the other

module _ (m : Modules) (g : ℕ) (s : m.side ≤ columns) (good : (i : ℕ) → i < length m.xs → misplaced_at m.side g m.xs m.ys i ≡ false)
    (page : List ℕ) (room : page_length m.side ≤ length page) (dots : (x y : ℕ) → x < m.side → y < m.side → get_or page (place_of x y) 0 ≡ 46) where
  -- n modules are shown
  record Shows (n : ℕ) (l : List ℕ) : Type 0 where
    pub long : length l ≡ length page
    pub squares : (x y : ℕ) → x < m.side → y < m.side → get_or l (place_of x y) 0 ≡ shown m.luma (last_at (square_of m.side m.xs m.ys) n (index_of m.side (pos x) (pos y)))
    pub others : (p : ℕ) → ((x y : ℕ) → x < m.side → y < m.side → p ≡ place_of x y → ⊥) → get_or l p 0 ≡ get_or page p 0

  start : Shows 0 page
  unfolding last_where shown
  start = record { long = refl; squares = λ x y a b. dots x y a b; others = λ p a. refl }

  -- a module off the grid: no square is its
  unseen : (i : ℕ) (l : List ℕ) → i < length m.xs → off_grid m.side (get_or m.xs i (pos 0)) (get_or m.ys i (pos 0)) ≡ true → Shows i l → Shows (suc i) l
  unfolding last_where
  unseen i l h off p = record { long = p.long; squares = λ x y a b. p.squares x y a b ∙ ap (shown m.luma) (same x y a b); others = p.others }
    where
      not_there : (x y : ℕ) → x < m.side → y < m.side → square_of m.side m.xs m.ys i ≡ index_of m.side (pos x) (pos y) → ⊥
      not_there x y a b e =
          let q = there_on m g i (omega arith) (good i h) x y a b e in
          let z : ◌≡◌ {A = ℕ} 0 1 = cc in
          omega arith

      same : (x y : ℕ) → x < m.side → y < m.side →
          last_at (square_of m.side m.xs m.ys) i (index_of m.side (pos x) (pos y)) ≡
          cond (eqb (square_of m.side m.xs m.ys i) (index_of m.side (pos x) (pos y))) (some i) (last_at (square_of m.side m.xs m.ys) i (index_of m.side (pos x) (pos y)))
      same x y a b = rw (ne_eqb (square_of m.side m.xs m.ys i) (index_of m.side (pos x) (pos y)) (not_there x y a b))

  -- a module on the grid writes its own square, which is nobody else's
  module _ (i : ℕ) (l : List ℕ) (h : i < length m.xs) (on : off_grid m.side (get_or m.xs i (pos 0)) (get_or m.ys i (pos 0)) ≡ false) (p : Shows i l) where
    abbrev column : ℕ
    column = nat_abs (get_or m.xs i (pos 0))

    abbrev row : ℕ
    row = nat_abs (get_or m.ys i (pos 0))

    inside : (outside m.side 0 (get_or m.xs i (pos 0)) ≡ false) × (outside m.side 0 (get_or m.ys i (pos 0)) ≡ false)
    inside = neither (outside m.side 0 (get_or m.xs i (pos 0))) (outside m.side 0 (get_or m.ys i (pos 0))) on

    at_column : (column < m.side) × (pos column ≡ get_or m.xs i (pos 0))
    at_column = on_grid m.side (get_or m.xs i (pos 0)) inside.0

    at_row : (row < m.side) × (pos row ≡ get_or m.ys i (pos 0))
    at_row = on_grid m.side (get_or m.ys i (pos 0)) inside.1

    abbrev value : ℕ
    value = 48 + reads (get_or m.luma i nan)

    square-after : (x y : ℕ) → x < m.side → y < m.side → (b : Bool) → eqb (square_of m.side m.xs m.ys i) (index_of m.side (pos x) (pos y)) ≡ b →
        get_or (set l (place_of column row) value) (place_of x y) 0 ≡ shown m.luma (cond b (some i) (last_at (square_of m.side m.xs m.ys) i (index_of m.side (pos x) (pos y))))
    unfolding shown
    square-after x y a b true e =
        let q = square-position m g i (omega arith) (good i h) x y a b (eqb-true _ _ e) in
        let u : column ≡ x = ap nat_abs q.0 in
        let v : row ≡ y = ap nat_abs q.1 in
        ap (λ (k : ℕ). get_or (set l k value) (place_of x y) 0) (let z : place_of column row ≡ place_of x y = omega arith in z)
        ∙ get_or-set_same l (place_of x y) value 0 (omega (arith, p.long))
    square-after x y a b false e =
        get_or-set_other l (place_of column row) (place_of x y) value 0
        (λ q. eqb-false _ _ e (position-square m g i (omega arith) (good i h) x y a b
        (sym at_column.1 ∙ ap pos (let z : column ≡ x = omega (arith, at_column.0) in z))
        (sym at_row.1 ∙ ap pos (let z : row ≡ y = omega (arith, at_column.0) in z))))
        ∙ p.squares x y a b

    seen : Shows (suc i) (set l (place_of column row) value)
    unfolding last_where
    seen =
        record {
          long = length-set l (place_of column row) value ∙ p.long;
          squares = λ x y a b. square-after x y a b (eqb (square_of m.side m.xs m.ys i) (index_of m.side (pos x) (pos y))) refl;
          others = λ k a. get_or-set_other l (place_of column row) k value 0 (a column row at_column.0 at_row.0) ∙ p.others k a;
        }

  next : (i : ℕ) (l : List ℕ) → i < length m.xs → Shows i l → Shows (suc i) (show_at m i l)
  unfolding show_score
  next i l h p = by (off_grid m.side (get_or m.xs i (pos 0)) (get_or m.ys i (pos 0))) refl
    where
      by : (b : Bool) → off_grid m.side (get_or m.xs i (pos 0)) (get_or m.ys i (pos 0)) ≡ b →
          Shows (suc i) (cond b l (set l (place_of (nat_abs (get_or m.xs i (pos 0))) (nat_abs (get_or m.ys i (pos 0)))) (48 + reads (get_or m.luma i nan))))
      by true e = unseen i l h e p
      by false e = seen i l h e p

  all_shown : Shows (length m.xs) (show_all m page)
  all_shown = for_up_to Shows (show_at m) (length m.xs) 0 page (omega arith) start (λ i a b l p. next i l b p)

-- ---- the page without modules

module _ (numbers : List ℕ) (side k : ℕ) (narrow : side ≤ columns) where
  blank_end : k % (columns + 1) ≡ columns → blank_byte numbers side k ≡ 10
  unfolding blank_byte
  blank_end e = rw (eq-eqb (k % 51) 50 e)

  blank_head : k < columns → blank_byte numbers side k ≡ field_byte (field_columns - 1 - k % field_columns) (get_or numbers (k / field_columns) 0)
  unfolding blank_byte
  blank_head l = rw (ne_eqb (k % 51) 50 (λ e. omega arith), lt-ltb k 50 l)

  blank-dot : columns < k → k % (columns + 1) < side → blank_byte numbers side k ≡ 46
  unfolding blank_byte
  blank-dot l h = rw (ne_eqb (k % 51) 50 (λ e. omega arith), le-ltb k 50 (omega arith), lt-ltb (k % 51) side h)

  blank-padding : columns < k → side ≤ k % (columns + 1) → k % (columns + 1) < columns → blank_byte numbers side k ≡ 32
  unfolding blank_byte
  blank-padding l h n = rw (ne_eqb (k % 51) 50 (λ e. omega arith), le-ltb k 50 (omega arith), le-ltb (k % 51) side h)

-- ---- a text at the front of a slice

module _ (text slice : List ℕ) (room : length text ≤ length slice) where
  pub overlaid-length : length (overlaid text slice) ≡ length slice
  unfolding overlaid
  overlaid-length = length-append text (drop (length text) slice) ∙ omega (arith, length-drop (length text) slice)

  pub overlaid-text : (p : ℕ) → p < length text → get_or (overlaid text slice) p 0 ≡ get_or text p 0
  unfolding overlaid
  overlaid-text p l = get_or-append text (drop (length text) slice) 0 p l

  pub overlaid-rest : (p : ℕ) → length text ≤ p → get_or (overlaid text slice) p 0 ≡ get_or slice p 0
  unfolding overlaid
  overlaid-rest p l =
      behind text (drop (length text) slice) (p - length text) p (omega arith)
      ∙ get_or-drop (length text) slice (p - length text) 0
      ∙ ap (λ (j : ℕ). get_or slice j 0) (let z : length text + (p - length text) ≡ p = omega arith in z)

-- ---- both together

module _ (numbers : List ℕ) (h : Numbers numbers) (m : Modules) (g : ℕ) (narrow : m.side ≤ columns) (good : (i : ℕ) → i < length m.xs → misplaced_at m.side g m.xs m.ys i ≡ false)
    (page : List ℕ) (room : page_length m.side ≤ length page) where
  abbrev blank : List ℕ
  blank = blank_page numbers m.side page

  filled : Reached 0 (blank_at numbers m.side) page (page_length m.side) blank
  filled = reached 0 (blank_at numbers m.side) page (page_length m.side) room

  dots : (x y : ℕ) → x < m.side → y < m.side → get_or blank (place_of x y) 0 ≡ 46
  dots x y a b = filled.done (place_of x y) (omega arith) ∙ blank-dot numbers m.side (place_of x y) narrow (omega arith) (omega arith)

  shows : Shows m g narrow good blank (omega (arith, filled.long)) dots (length m.xs) (show_all m blank)
  shows = all_shown m g narrow good blank (omega (arith, filled.long)) dots

  long-text : length (page_text numbers m) ≡ page_length m.side
  long-text = text-length m narrow numbers h

  -- byte p of the page: behind a line, in line one, on a square, right of the grid
  front : (p : ℕ) → p < page_length m.side → (e l q : Bool) → eqb (p % 51) 50 ≡ e → ltb p 50 ≡ l → ltb (p % 51) m.side ≡ q → get_or (show_all m blank) p 0 ≡ get_or (page_text numbers m) p 0
  front p n true l q ee el eq =
      let z = eqb-true (p % 51) 50 ee in
      shows.others p (λ x y a b w. omega arith)
      ∙ filled.done p n ∙ blank_end numbers m.side p narrow z
      ∙ sym (ap (λ (j : ℕ). get_or (page_text numbers m) j 0) (let w : p ≡ 51 * (p / 51) + 50 = omega arith in w) ∙ text_end m narrow numbers h (p / 51) (omega arith))
  front p n false true q ee el eq =
      let z = ltb-true p 50 el in
      shows.others p (λ x y a b w. omega arith)
      ∙ filled.done p n ∙ blank_head numbers m.side p narrow z
      ∙ sym (text_head m narrow numbers h p z)
  front p n false false true ee el eq =
      let z = ltb-true (p % 51) m.side eq in
      let w = ltb-false p 50 el in
      let u = eqb-false (p % 51) 50 ee in
      let v : p ≡ place_of (p % 51) (p / 51 - 1) = above p w u in
      ap (λ (j : ℕ). get_or (show_all m blank) j 0) v
      ∙ shows.squares (p % 51) (p / 51 - 1) z (omega arith)
      ∙ sym (ap (λ (j : ℕ). get_or (page_text numbers m) j 0) v ∙ text-square m narrow numbers h (p % 51) (p / 51 - 1) z (omega arith))
    where
      above : (p : ℕ) → 50 ≤ p → (p % 51 ≡ 50 → ⊥) → p ≡ place_of (p % 51) (p / 51 - 1)
      above p w u = omega arith
  front p n false false false ee el eq =
      let z = ltb-false (p % 51) m.side eq in
      let w = ltb-false p 50 el in
      let u = eqb-false (p % 51) 50 ee in
      let o : 51 ≤ p = omega arith in
      let v : p ≡ place_of (p % 51) (p / 51 - 1) = omega arith in
      shows.others p (λ x y a b w. omega arith)
      ∙ filled.done p n ∙ blank-padding numbers m.side p narrow o z (omega arith)
      ∙ sym (ap (λ (j : ℕ). get_or (page_text numbers m) j 0) v ∙ text-padding m narrow numbers h (p % 51) (p / 51 - 1) (omega arith) z (omega arith))

  byte_same : (p : ℕ) (b : Bool) → ltb p (page_length m.side) ≡ b → get_or (show_all m blank) p 0 ≡ get_or (overlaid (page_text numbers m) page) p 0
  byte_same p true e =
      let l = ltb-true p (page_length m.side) e in
      front p l (eqb (p % 51) 50) (ltb p 50) (ltb (p % 51) m.side) refl refl refl
      ∙ sym (overlaid-text (page_text numbers m) page (omega (arith, long-text)) p (omega (arith, long-text)))
  byte_same p false e =
      let l = ltb-false p (page_length m.side) e in
      shows.others p (λ x y a b w. omega arith)
      ∙ filled.kept p l
      ∙ sym (overlaid-rest (page_text numbers m) page (omega (arith, long-text)) p (omega (arith, long-text)))

  pub laid_out : show_all m blank ≡ overlaid (page_text numbers m) page
  laid_out =
      ext_get_or 0 (show_all m blank) (overlaid (page_text numbers m) page)
      (shows.long ∙ filled.long ∙ sym (overlaid-length (page_text numbers m) page (omega (arith, long-text))))
      (λ p l. byte_same p (ltb p (page_length m.side)) refl)
