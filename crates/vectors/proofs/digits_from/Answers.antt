-- `vectors::digits_from` meets its contract: what is left from each place on gives the same digits. Assumes nothing.
use Rattle.std.proofs.Common.{arith, rules}
use Rattle.vectors.proofs.Front.{begin-digits, stop-digits, turn-digits, done-digits, room-digits}
use Rattle.vectors.proofs.digits_from.Goals as goal

pub loop-b-init : goal.loop-b-init
loop-b-init c = search (begin-digits, rules)

pub returns-in_default : goal.returns-in_default
returns-in_default c = search (stop-digits, rules)

pub loop-b-preserved : goal.loop-b-preserved
loop-b-preserved c = search (turn-digits, rules)

pub returns : goal.returns
returns c = search (done-digits, rules)

pub overflow_add-end : goal.overflow_add-end
overflow_add-end c = omega (arith, room-digits c.loop-b.invariant c.args.text.now c.past-b-items.ensures (search rules))
