-- What the call knows past a sentence: each sentence's opposite. r is what the code's test of the sentence gave. Assumes nothing.
use mathlib.Core.Path.{◌≡◌, refl, sym, ◌∙◌}
use mathlib.Core.Bool.{Bool, true, false, not, ◌||◌}
use Prim.Native.Nat.{ℕ, ◌≤◌}
use native.Mathlib.Omega.{arith}
use borrow.Author.Tests.{ltb-false, eqb-true, not-false}
use lib.Dec.{ltb, eqb}
use Rattle.sentences.proofs.Laws.{neither}
use Rattle.limits.specs.Limits.{bad_side}
use Rattle.limits.proofs.Laws.{side_in}
use Rattle.illum.specs.Refusals.{bad_terms}
use Rattle.page.specs.Lines.{page_length}
use Rattle.page.specs.Calls.{short_slices, bad_tally}

-- sentence 5 fails
pub record Lengths (side xs ys luma page : ℕ) : Type 0 where
  pub pairs : xs ≡ ys
  pub scores : xs ≤ luma
  pub room : page_length side ≤ page

pub lengths : (side xs ys luma page : ℕ) → short_slices side xs ys luma page ≡ false → Lengths side xs ys luma page
unfolding short_slices
lengths side xs ys luma page h =
    let p = neither (not (eqb xs ys)) (_) h in
    let q = neither (ltb luma xs) (ltb page (page_length side)) p.1 in
    record {
      pairs = eqb-true xs ys (not-false (eqb xs ys) p.0);
      scores = ltb-false luma xs q.0;
      room = ltb-false page (page_length side) q.1;
    }

pub tally_in : (kept rejected held : ℕ) → bad_tally kept rejected held ≡ false → (kept ≤ 16384) × (rejected ≤ 16384) × (held ≤ 1048576)
unfolding bad_tally
tally_in kept rejected held h =
    let p = neither (ltb 16384 kept) (ltb 16384 rejected || ltb 1048576 held) h in
    let q = neither (ltb 16384 rejected) (ltb 1048576 held) p.1 in
    (ltb-false 16384 kept p.0, ltb-false 16384 rejected q.0, ltb-false 1048576 held q.1)

module _ (r : Bool) where
  pub side-most : (side : ℕ) → r ≡ bad_side side → r ≡ false → side ≤ 1024
  side-most side e f = (side_in side (sym e ∙ f)).1

  pub in_pairs : (side xs ys luma page : ℕ) → r ≡ short_slices side xs ys luma page → r ≡ false → xs ≡ ys
  in_pairs side xs ys luma page e f = (lengths side xs ys luma page (sym e ∙ f)).pairs

-- the terms are 4 or 9
pub terms_in : (terms : ℕ) → bad_terms terms ≡ false → terms ≤ 9
unfolding bad_terms
terms_in terms h = by (eqb terms 4) (eqb terms 9) refl refl (not-false (eqb terms 4 || eqb terms 9) h)
  where
    by : (f n : Bool) → eqb terms 4 ≡ f → eqb terms 9 ≡ n → f || n ≡ true → terms ≤ 9
    by true n ef en t = omega (arith, eqb-true terms 4 ef)
    by false true ef en t = omega (arith, eqb-true terms 9 en)
    by false false ef en t = let z : ◌≡◌ {A = ℕ} 0 1 = cc in absurd (omega arith)
