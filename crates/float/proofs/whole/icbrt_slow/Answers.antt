-- `float::whole::icbrt_slow` meets its contract. The invariant is `Digits` of `proofs/Cubes.antt`: q is the whole part of the cube root of a * 8 ^
-- i, and r is what is left. Assumes nothing.
use Rattle.std.proofs.Common.{◌≡◌, ℕ, sym, subst₂, arith}
use Rattle.float.proofs.Cubes.{square-fits, cube-fits, pair_fits, pairs-fit, step_fits, rest-fits, Digits, short, begin, one, none, done}
use Rattle.float.proofs.whole.icbrt_slow.Goals as goal
use Rattle.float.proofs.whole.icbrt_slow.Goals.{then-step-r, else-step-r}

moved : (a i : ℕ) {q r q' r' : ℕ} → q' ≡ q → r' ≡ r → Digits a q r i → Digits a q' r' i
moved a i e f d = subst₂ (λ (x y : ℕ). Digits a x y i) (sym e) (sym f) d

pub overflow_mul-r : goal.overflow_mul-r
overflow_mul-r c = record { fits = square-fits _ (omega arith) }

pub overflow_mul-r-2 : goal.overflow_mul-r-2
overflow_mul-r-2 c = record { fits = cube-fits _ (omega arith) }

pub loop-init : goal.loop-init
loop-init c = begin _ _ c.icbrt-q.ensures.0 c.icbrt-q.ensures.1.0 c.icbrt-q.ensures.1.1

pub overflow_add-p : goal.overflow_add-p
overflow_add-p c = omega (arith, short c.loop.q c.loop.counter c.loop-test.true c.loop.invariant.1)

pub overflow_add-step : goal.overflow_add-step
overflow_add-step c = omega (arith, short c.loop.q c.loop.counter c.loop-test.true c.loop.invariant.1)

pub overflow_mul-step : goal.overflow_mul-step
overflow_mul-step c = record { fits = pair_fits _ (short c.loop.q c.loop.counter c.loop-test.true c.loop.invariant.1) }

pub overflow_mul-step-in-loop : goal.overflow_mul-step-in-loop
overflow_mul-step-in-loop c = record { fits = pairs-fit _ (short c.loop.q c.loop.counter c.loop-test.true c.loop.invariant.1) }

pub overflow_add-step-in-loop : goal.overflow_add-step-in-loop
overflow_add-step-in-loop c = record { fits = step_fits _ (short c.loop.q c.loop.counter c.loop-test.true c.loop.invariant.1) }

pub overflow_mul-r-in-loop : goal.overflow_mul-r-in-loop
overflow_mul-r-in-loop c = record { fits = rest-fits _ _ (short c.loop.q c.loop.counter c.loop-test.true c.loop.invariant.1) c.loop.invariant.3 }

pub overflow_add-q : goal.overflow_add-q
overflow_add-q c = omega (arith, short c.loop.q c.loop.counter c.loop-test.true c.loop.invariant.1)

pub loop-preserved : goal.loop-preserved
loop-preserved c = elim c.if-step-r.branch [
  | then-step-r w ↦ moved _ _ w.q-is w.r-is (one _ _ _ _ c.loop.invariant c.loop-test.true w.if-step-r.true)
  | else-step-r w ↦ moved _ _ w.q-is w.r-is (none _ _ _ _ c.loop.invariant c.loop-test.true w.if-step-r.false)
]

pub returns : goal.returns
returns c = done _ _ _ _ c.loop.invariant c.loop-test.false
