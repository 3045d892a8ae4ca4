-- `order::counted` meets its contract: the middle one of an odd number of values, or the middle pair of an even number, found by rank. Assumes nothing.
use mathlib.Core.Path.{◌≡◌, sym, ◌∙◌}
use native.Mathlib.Omega.{arith}
use borrow.Author.Rules.{rules}
use lib.Ieee.{of_bits, is_nan}
use Rattle.order.specs.Law.{count}
use Rattle.order.proofs.Only.{counted-odd, counted-even}
use Rattle.order.proofs.Tally.{none_passes}
use Rattle.order.proofs.counted.Goals as goal

pub returns-then-n-eq1 : goal.returns-then-n-eq1
returns-then-n-eq1 c =
    let xs = c.args.v.now in
    let e : count is_nan xs ≡ 0 = sym (c.count_of.ensures is_nan (λ x b h p. search rules)) ∙ c.if-count_of-ne0.false in
    counted-odd xs (none_passes is_nan xs e) (λ i. c.type_inv.v i) _ (omega arith) c.in_ok-upper.ensures

pub returns : goal.returns
unfolding of_bits
returns c =
    let xs = c.args.v.now in
    let e : count is_nan xs ≡ 0 = sym (c.count_of.ensures is_nan (λ x b h p. search rules)) ∙ c.if-count_of-ne0.false in
    counted-even xs (none_passes is_nan xs e) (λ i. c.type_inv.v i) _ _ (omega arith) (omega arith) c.in_ok-lower.ensures c.in_ok-upper.ensures
