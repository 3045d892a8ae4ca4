-- `page::lay_blank` meets its contract: the front of the slice has the bytes of the page without modules, and the rest is as it was. Assumes nothing.
use mathlib.Core.Path.{◌≡◌, sym, ap, ◌∙◌}
use mathlib.Core.List.{List, ◌++◌}
use Prim.Native.Nat.{ℕ, ◌≤◌, ◌<◌}
use native.Mathlib.Omega.{arith}
use lib.ListN.{length, get_or, take, drop}
use lib.Seq.{length-take-le}
use Rattle.lists.proofs.Laws.{is_replaced}
use Rattle.page.specs.Lines.{page_length, overlaid}
use Rattle.page.specs.Steps.{blank_byte, blank_at, blank_page}
use Rattle.page.proofs.Laid.{overlaid-length, overlaid-text, overlaid-rest}
use Rattle.page.proofs.lay_blank.Goals as goal

module _ (numbers : List ℕ) (side n k : ℕ) (items out : List ℕ) (e : n ≡ page_length side) (room : page_length side ≤ length out) where
  blanked : length items ≡ length (take n out) → length (take n out) ≤ k → ((j : ℕ) → j < k → get_or items j 0 ≡ blank_byte numbers side j) → items ++ drop n out ≡ blank_page numbers side out
  unfolding overlaid
  blanked h q each =
      let t : length (take n out) ≡ n = length-take-le n out (omega arith) in
      let l : length items ≡ page_length side = h ∙ t ∙ e in
      let r : length items ≤ length out = omega arith in
      ap (λ (i : ℕ). items ++ drop i out) (e ∙ sym l)
      ∙ is_replaced 0 (page_length side) (blank_at numbers side) out (overlaid items out) room (overlaid-length items out r)
      (λ j u. overlaid-text items out r j (omega arith) ∙ each j (omega arith)) (λ j u. overlaid-rest items out r j (omega arith))

pub returns : goal.returns
returns c = let p = c.requires in let i = c.loop-k.invariant in blanked _ _ _ _ _ _ c.page_length.ensures p.1.long i.0 c.loop-k-test.false i.1
