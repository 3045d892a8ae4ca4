-- `residuals::reject` meets its contract: what is left from i on rejects the rest. Assumes nothing.
use mathlib.Core.Path.{◌≡◌, ap, ap₂, ◌∙◌}
use mathlib.Core.Bool.{true, false}
use mathlib.Core.List.{List}
use Prim.Native.Nat.{ℕ, ◌+◌, ◌<◌, ◌≤◌}
use native.Mathlib.Omega.{arith}
use lib.ListN.{get_or, set}
use lib.Ieee.{Float, nan, lt}
use borrow.Author.Tests.{lt-ltb, le-ltb}
use Rattle.loops.proofs.Laws.{turn_to, loops}
use Rattle.equations.specs.Live.{dropped_mark}
use Rattle.residuals.specs.Residual.{rejection, reject_at, reject_above}
use Rattle.residuals.proofs.Literals.{zero}
use borrow.Author.Rules.{rules}
use Rattle.residuals.proofs.reject.Goals as goal
use Rattle.residuals.proofs.reject.Goals.{then-r-limit+then-rejected-most, else-r-limit, else-r-limit-via-then-r-limit+else-rejected-most, else-r-limit-via-else-r-limit}

module _ (residuals : List Float) (limit : Float) (most i k : ℕ) (live : List Float) where
  dropped : lt limit (get_or residuals i nan) ≡ true → k < most → rejection (set live i dropped_mark) (k + 1) ≡ reject_at residuals limit most i (rejection live k)
  unfolding reject_at
  dropped u l = cc (lt-ltb k most l)

  spared : lt limit (get_or residuals i nan) ≡ true → most ≤ k → rejection live k ≡ reject_at residuals limit most i (rejection live k)
  unfolding reject_at
  spared u l = cc (le-ltb k most l)

  within : lt limit (get_or residuals i nan) ≡ false → rejection live k ≡ reject_at residuals limit most i (rejection live k)
  unfolding reject_at
  within u = cc

pub loop-i-init : goal.loop-i-init
unfolding reject_above
loop-i-init c = search (loops, rules)

pub loop-i-preserved : goal.loop-i-preserved
loop-i-preserved c =
    let inv = c.loop-i.invariant in
    let test = c.loop-i-test.true in
    elim c.if-r-limit.branch [
      | then-r-limit+then-rejected-most w ↦ (search rules, omega (arith, w.rejected-is, inv.1), turn_to inv.2 test (ap₂ rejection (w.live-is ∙ ap (set c.loop-i.live c.loop-i.i) zero) w.rejected-is ∙ dropped _ _ _ _ _ _ w.if-r-limit.true w.if-rejected-most.true))
      | else-r-limit w ↦ (
        search rules,
        omega (arith, w.rejected-is, inv.1),
        turn_to inv.2 test (ap₂ rejection w.live-is w.rejected-is ∙ (elim w.else-r-limit.branch [
          | else-r-limit-via-then-r-limit+else-rejected-most v ↦ spared _ _ _ _ _ _ v.if-r-limit.true v.if-rejected-most.false
          | else-r-limit-via-else-r-limit v ↦ within _ _ _ _ _ _ v.if-r-limit.false
        ])),
      )
    ]

pub returns : goal.returns
returns c = search (loops, rules)
