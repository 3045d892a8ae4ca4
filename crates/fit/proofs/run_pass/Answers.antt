-- `fit::run_pass` meets its contract: the equations, and then, where they have a solution, the residuals. Assumes nothing.
use mathlib.Core.Path.{◌≡◌, refl, sym, ap, ap₂, ◌∙◌}
use mathlib.Core.Bool.{Bool, true, false, cond}
use mathlib.Core.List.{List}
use Prim.Native.Nat.{ℕ}
use lib.ListN.{length}
use lib.Ieee.{Float}
use Rattle.std.specs.Prelude.{Option, Some, Result, Ok, Err}
use Rattle.std.specs.Option.{option_map}
use Rattle.answers.specs.declared.refusal.Refusal.{Refusal}
use Rattle.answers.specs.declared.refusal.Refusal.TheVariants.{Fit}
use Rattle.illum.specs.declared.IlluminationModel.{IlluminationModel}
use Rattle.illum.specs.Correct.{mixed, unshaded}
use Rattle.equations.specs.Once.{fit_once}
use Rattle.residuals.specs.Residual.{residual, residuals_of, rms_of}
use Rattle.fit.specs.Fit.{with_rms, bad_pass, measured, looked_at, pass_of}
use Rattle.residuals.proofs.Listed.{residuals-length}
use Rattle.fit.proofs.run_pass.Goals as goal

-- the root mean square is no part of the correction
rms_apart : (m : IlluminationModel) (v : Float) (flat : List Float) (n : ℕ) → residuals_of m flat n ≡ residuals_of (with_rms m v) flat n
unfolding residuals_of residual mixed unshaded
rms_apart m v flat n = refl

-- r is the residuals of model k, v the model with the root mean square f of them, b whether sentence 11 holds of it
module _ (flat live r : List Float) (n : ℕ) (k v : IlluminationModel) (f : Float) (b : Bool) (er : r ≡ residuals_of k flat n) (ef : f ≡ rms_of r live (length r)) (ev : v ≡ with_rms k f) where
  long : length r ≡ n
  long = ap length er ∙ sym (residuals-length k flat n)

  measured_is : v ≡ measured (residuals_of k flat n) live n k
  measured_is = ev ∙ ap (with_rms k) (ef ∙ ap₂ (λ x j. rms_of x live j) er long)

  own : r ≡ residuals_of v flat n
  own = er ∙ rms_apart k f flat n ∙ ap (λ (z : IlluminationModel). residuals_of z flat n) (sym ev)

  module _ (m : IlluminationModel) (es : Some k ≡ fit_once m flat live n) (eb : b ≡ bad_pass v r (length r)) where
    looked : ◌≡◌ {A = Result (Option IlluminationModel) Refusal} (cond b (Err Fit) (Ok (Some v))) (pass_of m flat live n)
    unfolding pass_of
    looked =
        ap (λ (c : Bool). cond c (Err Fit) (Ok (Some v))) (eb ∙ ap₂ (bad_pass v) own long)
        ∙ ap (λ (z : IlluminationModel). looked_at flat n (Some z)) measured_is
        ∙ ap (λ (o : Option IlluminationModel). looked_at flat n (option_map (λ z. measured (residuals_of z flat n) live n z) o)) es

    turned : b ≡ true → Err Fit ≡ pass_of m flat live n
    turned t = cc looked

    given : b ≡ false → Ok (Some v) ≡ pass_of m flat live n
    given t = cc looked

pub returns-in_default-clause-passed : goal.returns-in_default-clause-passed
unfolding pass_of
returns-in_default-clause-passed c =
    let flat = c.args.selection.now.references.flat.now in
    let n = c.args.selection.now.references.n in
    ap (λ (o : Option IlluminationModel). looked_at flat n (option_map (λ z. measured (residuals_of z flat n) c.args.selection.now.marks.now n z) o)) c.in_default.ensures

pub returns-then-bad_pass-clause-passed : goal.returns-then-bad_pass-clause-passed
returns-then-bad_pass-clause-passed c =
    turned _ _ _ _ _ _ _ _ c.write_residuals.ensures c.residual_rms.ensures c.with_rms-model.ensures _ c.in-Some.ensures c.bad_pass.ensures c.if-bad_pass.true

pub returns-clause-passed : goal.returns-clause-passed
returns-clause-passed c =
    given _ _ _ _ _ _ _ _ c.write_residuals.ensures c.residual_rms.ensures c.with_rms-model.ensures _ c.in-Some.ensures c.bad_pass.ensures c.if-bad_pass.false

pub returns-clause-residuals : goal.returns-clause-residuals
returns-clause-residuals c = own _ _ _ _ _ _ _ false c.write_residuals.ensures c.residual_rms.ensures c.with_rms-model.ensures
