-- `near::search::Search::sift` meets its contract: what is moved stands at j, and all others of the first k + 1 stay in order.
-- Assumes nothing.
use mathlib.Core.Path.{sym, ◌∙◌}
use Rattle.std.proofs.lemmas.List.Edits.{swap_is}
use Rattle.near.proofs.Sifting.{starts, ready, goes_on, stops, rests}
use Rattle.near.proofs.search.Search.sift.Goals as goal

pub loop-j-init : goal.loop-j-init
loop-j-init c = search (starts)

pub earlier-requires : goal.earlier-requires
earlier-requires c = ready c.loop-j.invariant c.requires.2 c.requires.1

pub swap-requires : goal.swap-requires
swap-requires c =
    let r = ready c.loop-j.invariant c.requires.2 c.requires.1 in
    record { a_in_bounds = r.1; b_in_bounds = r.0 }

pub loop-j-preserved : goal.loop-j-preserved
loop-j-preserved c =
    let r = ready c.loop-j.invariant c.requires.2 c.requires.1 in
    goes_on c.loop-j.invariant c.loop-j-test.true c.requires.0 c.requires.1
    (sym c.earlier.ensures ∙ c.if-earlier.true) (c.swap.ensures.after ∙ sym (swap_is _ _ _ 0 r.1 r.0))

pub returns-else-earlier : goal.returns-else-earlier
returns-else-earlier c =
    rests c.loop-j.invariant c.requires.2 c.loop-j-test.true c.requires.0 (sym c.earlier.ensures ∙ c.if-earlier.false)

pub returns-after-loop-j : goal.returns-after-loop-j
returns-after-loop-j c = stops c.loop-j.invariant c.requires.2 c.loop-j-test.false
