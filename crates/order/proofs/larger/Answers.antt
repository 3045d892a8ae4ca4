-- `order::larger` meets its contract: of a number `max` needs no other test. Assumes nothing.
use mathlib.Core.Path.{sym}
use Rattle.order.proofs.Largest.{max-above, max-below, above-number}
use Rattle.order.proofs.larger.Goals as goal

pub returns-then-m-x : goal.returns-then-m-x
returns-then-m-x c = (sym (max-above _ _ c.if-m-x.true), above-number _ _ c.if-m-x.true)

pub returns-else-m-x : goal.returns-else-m-x
returns-else-m-x c = (sym (max-below _ _ c.requires c.if-m-x.false), c.requires)
