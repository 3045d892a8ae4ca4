-- What an accepted call leaves is the text: the bytes without modules, and then the modules. Assumes nothing.
use mathlib.Core.Path.{◌≡◌, ap, ◌∙◌}
use mathlib.Core.List.{List}
use Prim.Native.Nat.{ℕ}
use native.Mathlib.Omega.{arith}
use lib.IntN.{ℤ}
use lib.ListN.{length}
use Rattle.page.specs.Lines.{modules}
use Rattle.page.specs.Steps.{RoomFor, blank_page, show_all}
use Rattle.page.specs.Calls.{Request, numbers_of, modules_of, laid_out_bytes}
use Rattle.page.proofs.Text.{five-numbers}
use Rattle.page.proofs.Laid.{laid_out}
use Rattle.page.proofs.Passed.{terms_in}
use Rattle.page.proofs.Accepted.{Accepted, each_placed}

module _ (q : Request) (a : Accepted q) where
  pub room : (side : ℕ) (page : List ℕ) → side ≡ q.side → length page ≡ length q.page → RoomFor side page
  room side page e h = record { narrow = omega (arith, a.narrow); long = omega (arith, a.long.room) }

  laid : (blank whole : List ℕ) → blank ≡ blank_page (numbers_of q) q.side q.page → whole ≡ show_all (modules_of q) blank → whole ≡ laid_out_bytes q
  laid blank whole e f =
      f ∙ ap (show_all (modules_of q)) e
      ∙ laid_out (numbers_of q)
      (five-numbers q.side q.terms q.kept q.rejected q.held (omega (arith, a.narrow)) (omega (arith, terms_in q.terms a.terms-good)) (omega (arith, a.tally.0))
      (omega (arith, a.tally.1)) (omega (arith, a.tally.2)))
      (modules_of q) q.grid a.narrow (each_placed q a) q.page a.long.room

  -- over the numbers and modules of the code
  pub is_laid : (numbers : List ℕ) (side : ℕ) (xs ys : List ℤ) (blank whole : List ℕ) → numbers ≡ numbers_of q → side ≡ q.side → xs ≡ q.xs → ys ≡ q.ys → blank ≡ blank_page numbers q.side q.page →
      whole ≡ show_all (modules side xs ys q.luma) blank → whole ≡ laid_out_bytes q
  is_laid numbers side xs ys blank whole n s x y e f = laid blank whole (rw n at e) (rw (s, x, y) at f)
