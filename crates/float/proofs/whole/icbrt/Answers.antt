-- `float::whole::icbrt` meets its contract. The interval from lo to hi always holds the root, and the measure is its length. Assumes nothing.
use Rattle.std.proofs.Common.{◌≡◌, ℕ, ◌+◌, ◌*◌, ◌<◌, subst, arith}
use Rattle.float.proofs.Cubes.{square-fits, cube-fits}
use Rattle.float.proofs.whole.icbrt.Goals as goal

pub overflow_mul-mid : goal.overflow_mul-mid
overflow_mul-mid c = record { fits = square-fits _ (omega arith) }

pub overflow_mul-mid-in-loop-lo : goal.overflow_mul-mid-in-loop-lo
overflow_mul-mid-in-loop-lo c = record { fits = cube-fits _ (omega arith) }

pub returns : goal.returns
returns c =
    let lo = c.loop-lo.lo in
    let hi = c.loop-lo.hi in
    let e : hi ≡ lo + 1 = omega arith in
    (c.loop-lo.invariant.2, (subst (λ (h : ℕ). c.args.a < h * h * h) e c.loop-lo.invariant.3, omega arith))
