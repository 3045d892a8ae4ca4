-- `page::Shown::show` meets its contract: a module off the grid changes nothing, one on it stands in one of the grid's columns and rows. Assumes nothing.
use mathlib.Core.Path.{◌≡◌, sym, ap, ◌∙◌}
use mathlib.Core.Bool.{Bool, true, false}
use mathlib.Core.List.{List}
use Prim.Native.Nat.{ℕ, ◌+◌, ◌*◌, ◌≤◌, ◌<◌}
use native.Mathlib.Omega.{arith}
use borrow.Author.Rules.{rules}
use lib.IntN.{ℤ, pos, nat_abs}
use lib.ListN.{set}
use lib.Ieee.{Float}
use mir.Syntax.{w8}
use mir.Val.{Fits}
use Rattle.sentences.proofs.Laws.{neither}
use Rattle.places.specs.Places.{outside, off_grid}
use Rattle.places.proofs.Placed.{on_grid}
use Rattle.reading.specs.Read.{reads}
use Rattle.reading.proofs.Erasure.{reads-most}
use Rattle.page.specs.Lines.{page_length}
use Rattle.page.specs.Steps.{show_score}
use Rattle.page.proofs.Shown.show.Goals as goal

digit-fits : (v : Float) (r : ℕ) → r ≡ reads v → Fits w8 (48 + r)
digit-fits v r e = record { fits = omega (arith, reads-most v) }

module _ (side : ℕ) (x y : ℤ) (r : Bool) (e : r ≡ off_grid side x y) (f : r ≡ false) where
  on_x : outside side 0 x ≡ false
  on_x = (neither (outside side 0 x) (outside side 0 y) (sym e ∙ f)).0

  on_y : outside side 0 y ≡ false
  on_y = (neither (outside side 0 x) (outside side 0 y) (sym e ∙ f)).1

  place_in : (a b n : ℕ) → pos a ≡ x → pos b ≡ y → side ≤ 50 → page_length side ≤ n → (50 + 1) * (b + 1) + a < n
  place_in a b n ea eb w l =
      let p = (on_grid side x on_x).0 in
      let q = (on_grid side y on_y).0 in
      let u : nat_abs x ≡ a = sym (ap nat_abs ea) in
      let v : nat_abs y ≡ b = sym (ap nat_abs eb) in
      omega arith

module _ (side : ℕ) (x y : ℤ) (score : Float) (out : List ℕ) (r : Bool) (e : r ≡ off_grid side x y) where
  stays : r ≡ true → out ≡ show_score side x y score out
  unfolding show_score
  stays t = rw (← e, t)

  wrote : (a b v : ℕ) → r ≡ false → pos a ≡ x → pos b ≡ y → v ≡ reads score → set out ((50 + 1) * (b + 1) + a) (48 + v) ≡ show_score side x y score out
  unfolding show_score
  wrote a b v f ea eb ev = rw (← e, f, ← ea, ← eb, ev)

pub coordinate_at-requires : goal.coordinate_at-requires
coordinate_at-requires c = (search rules, search rules, search (on_x))

pub coordinate_at-requires-2 : goal.coordinate_at-requires-2
coordinate_at-requires-2 c = (search rules, search rules, search (on_y))

pub returns-then-off_grid_at : goal.returns-then-off_grid_at
returns-then-off_grid_at c = search (stays)

pub overflow_add-out : goal.overflow_add-out
overflow_add-out c = search (digit-fits)

pub bounds-out-y : goal.bounds-out-y
bounds-out-y c = rw (c.from-x.ensures, c.from-y.ensures) (search (place_in))

pub returns : goal.returns
returns c = rw (c.from-x.ensures, c.from-y.ensures) (search (wrote))
