-- `page::page` meets its contract: the number of the first sentence that holds with nothing written, or the page. Assumes nothing.
use native.Mathlib.Omega.{arith}
use mathlib.Core.Path.{refl, ap}
use lib.ListN.{length}
use Rattle.answers.proofs.Answers.{list_on, list_written}
use Rattle.page.specs.Calls.{page_of}
use Rattle.page.proofs.Accepted.{accepted}
use Rattle.page.proofs.Whole.{room, is_laid}
use Rattle.page.proofs.page.Goals as goal

pub returns-in_err-check : goal.returns-in_err-check
unfolding page_of
returns-in_err-check c = search (list_on, c.in_err-check.ensures)

pub new-requires : goal.new-requires
new-requires c = let a = accepted _ 0 c.in_ok-check.ensures refl in (a.positions, a.counted.0, a.counted.1)

pub invariant_of-shown : goal.invariant_of-shown
invariant_of-shown c = let a = accepted _ 0 c.in_ok-check.ensures refl in record { scored = omega (arith, a.long.scores, ap length c.new.ensures.2) }

pub lay_blank-requires : goal.lay_blank-requires
lay_blank-requires c = let a = accepted _ 0 c.in_ok-check.ensures refl in (omega arith, room _ a _ _ refl refl)

pub show_all-requires : goal.show_all-requires
show_all-requires c = let a = accepted _ 0 c.in_ok-check.ensures refl in room _ a _ _ c.new.ensures.0 c.lay_blank.auto.out

pub returns : goal.returns
unfolding page_of
returns c =
    let a = accepted _ 0 c.in_ok-check.ensures refl in
    list_written _ _ _ _ c.in_ok-check.ensures (is_laid _ a _ _ _ _ _ _ c.numbers.ensures c.new.ensures.0 c.new.ensures.2 c.new.ensures.3 c.lay_blank.ensures c.show_all.ensures)
