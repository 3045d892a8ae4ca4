-- `order::count_of` meets its contract: of a test that gives the closure's answers, the values so far are counted. Assumes nothing.
use mathlib.Core.Bool.{Bool, true, false}
use mathlib.Core.Path.{◌≡◌, refl, ap, ◌∙◌}
use native.Mathlib.Omega.{arith}
use lib.Ieee.{nan}
use lib.ListN.{get_or}
use mir.Val.{bool_byte}
use Rattle.order.specs.Law.{tally}
use Rattle.order.proofs.Tally.{tally-le, count_turn, count-done}
use Rattle.order.proofs.count_of.Goals as goal

byte : (b : Bool) → bool_byte b ≡ tally b
byte true = refl
byte false = refl

pub loop-x-preserved : goal.loop-x-preserved
loop-x-preserved g c =
    let x = get_or c.args.v.now c.loop-x.x-index nan in (
      omega (arith, byte c.test.result, tally-le c.test.result),
      λ f p. count_turn (c.loop-x.invariant.1 f p) c.loop-x-test.true (c.from-n.ensures ∙ byte c.test.result ∙ ap tally (p x c.test.result (c.type_inv.v c.loop-x.x-index) c.test.ensures)),
    )

pub returns : goal.returns
returns g c = λ f p. count-done (c.loop-x.invariant.1 f p) c.loop-x-test.false
