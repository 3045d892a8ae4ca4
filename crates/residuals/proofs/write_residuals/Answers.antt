-- `residuals::write_residuals` meets its contract: before turn i the first i residuals are written.
-- Assumes nothing.
use mathlib.Core.Path.{◌≡◌, sym, ap, ◌∙◌}
use mathlib.Core.List.{List, ◌++◌, append-nil}
use Prim.Native.Nat.{ℕ, ◌<◌, ◌≤◌}
use native.Mathlib.Omega.{arith}
use lib.ListN.{length, drop, drop_of_length-le}
use lib.Ieee.{Float}
use Rattle.order.proofs.Fill.{Filling, fill-turn, fill_done, fills}
use Rattle.illum.specs.declared.IlluminationModel.{IlluminationModel}
use Rattle.residuals.specs.Residual.{residuals_of}
use Rattle.residuals.proofs.Listed.{residuals-length, residuals_at}
use borrow.Author.Rules.{rules}
use Rattle.residuals.proofs.write_residuals.Goals as goal

whole : (m : IlluminationModel) (flat out₀ out : List Float) (n i : ℕ) → Filling (residuals_of m flat n) out₀ n i out → length out₀ ≡ n → n ≤ i → out ≡ residuals_of m flat n
whole m flat out₀ out n i f l h =
    fill_done f h ∙ ap (λ (k : ℕ). residuals_of m flat n ++ drop k out₀) (sym (residuals-length m flat n))
    ∙ ap (λ (z : List Float). residuals_of m flat n ++ z) (drop_of_length-le out₀ {i = n} (omega arith)) ∙ append-nil (residuals_of m flat n)

pub loop-i-init : goal.loop-i-init
loop-i-init c = search (residuals-length, fills, rules)

pub loop-i-preserved : goal.loop-i-preserved
loop-i-preserved c =
    let h : c.loop-i.i < c.args.references.now.n = omega (arith, c.loop-i-test.true, c.requires) in
    (search rules, fill-turn c.loop-i.invariant.1 h (residuals_at _ _ _ _ _ h c.residual.ensures))

pub returns : goal.returns
returns c = whole _ _ _ _ _ _ c.loop-i.invariant.1 c.requires (omega (arith, c.loop-i-test.false, c.requires))
