-- `order::median` meets its contract: each way to a result is that of `median_of`. Assumes nothing.
use borrow.Author.Rules.{rules}
use mathlib.Core.Path.{sym, ◌∙◌}
use lib.Seq.{length-take-le}
use lib.Ieee.{of_bits}
use Rattle.order.proofs.Middle.{together, none, kept, odd, even}
use Rattle.order.proofs.median.Goals as goal

pub returns-then-n-eq0 : goal.returns-then-n-eq0
unfolding of_bits
returns-then-n-eq0 c = together _ _ _ _ (none _ c.if-n-eq0.true) (kept _ c.if-n-eq0.true)

pub returns-then-n-eq1 : goal.returns-then-n-eq1
returns-then-n-eq1 c =
    let s = c.select-upper.ensures in
    together _ _ _ _ (s.value ∙ odd _ c.if-n-eq0.false c.if-n-eq1.true) s.v_after

pub slice_bounds-maximum-end-2 : goal.slice_bounds-maximum-end-2
slice_bounds-maximum-end-2 c = sym (length-take-le _ _ (search rules))

pub returns : goal.returns
unfolding of_bits
returns c =
    let a = c in
    let s = a.select-upper.ensures in
    together _ _ _ _ (rw (c.maximum-lower.ensures, s.v_after, s.value) (even _ a.if-n-eq0.false c.if-n-eq1.false)) s.v_after
