-- A pass changes a model's surfaces, its affine part and its residual, and nothing else; and where it has a solution and sentence 11 does not hold, its numbers are finite. Assumes nothing.
use mathlib.Core.Path.{◌≡◌, refl, ap, ◌∙◌}
use mathlib.Core.Bool.{Bool, true, false, cond, ◌||◌}
use mathlib.Core.List.{List}
use Prim.Native.Nat.{ℕ}
use lib.Ieee.{Float}
use Rattle.std.specs.Prelude.{Option, None, Some, Result, Ok, Err, IfOk, IfSome}
use Rattle.std.specs.Option.{option_map}
use Rattle.sentences.proofs.Laws.{neither}
use Rattle.answers.specs.declared.refusal.Refusal.{Refusal}
use Rattle.answers.specs.declared.refusal.Refusal.TheVariants.{Fit}
use Rattle.illum.specs.declared.IlluminationModel.{IlluminationModel}
use Rattle.illum.specs.Refusals.{bad_terms, bad_model_side, not_finite_affine, not_finite_gains, not_finite_flares, not_finite_model, bad_shape, bad_model}
use Rattle.equations.specs.Once.{fit_once}
use Rattle.equations.proofs.Alike.{Alike, fit-once-alike}
use Rattle.residuals.specs.Residual.{residuals_of}
use Rattle.fit.specs.Fit.{with_counts, bad_pass, measured, looked_at, pass_of}

-- what holds of the model that a pass from model m gives
abbrev pub Fitting : IlluminationModel → Result (Option IlluminationModel) Refusal → Type 0
Fitting m p = IfOk p (λ o. IfSome o (λ k. Alike m k × (not_finite_model k ≡ false)))

judges : (m k : IlluminationModel) (residuals : List Float) (n : ℕ) (b : Bool) → Alike m k → bad_pass k residuals n ≡ b → Fitting m (cond b (Err Fit) (Ok (Some k)))
unfolding bad_pass
judges m k residuals n true h e = tt
judges m k residuals n false h e = (h, (neither _ _ e).0)

looks : (m : IlluminationModel) (flat live : List Float) (n : ℕ) (o : Option IlluminationModel) → ((k : IlluminationModel) → o ≡ Some k → Alike m k)
    → Fitting m (looked_at flat n (option_map (λ k. measured (residuals_of k flat n) live n k) o))
looks m flat live n None h = tt
looks m flat live n (Some k) h =
    let a = h k refl in
    let v = measured (residuals_of k flat n) live n k in
    judges m v (residuals_of v flat n) n (bad_pass v (residuals_of v flat n) n) (record { terms = a.terms; side = a.side; rejected = a.rejected; kept = a.kept }) refl

pub pass-fitting : (m : IlluminationModel) (flat live : List Float) (n : ℕ) → Fitting m (pass_of m flat live n)
unfolding pass_of
pass-fitting m flat live n = looks m flat live n (fit_once m flat live n) (fit-once-alike m flat live n)

-- ---- sentence 10

pub counts-apart : (m : IlluminationModel) (rejected kept : ℕ) → not_finite_model (with_counts m rejected kept) ≡ not_finite_model m
unfolding not_finite_model not_finite_affine not_finite_gains not_finite_flares
counts-apart m rejected kept = refl

pub counts-pass : (m : IlluminationModel) (rejected kept : ℕ) → bad_model m ≡ false → bad_model (with_counts m rejected kept) ≡ false
unfolding bad_model bad_shape not_finite_model not_finite_affine not_finite_gains not_finite_flares
counts-pass m rejected kept h = h

none : (a b c : Bool) → a ≡ false → b ≡ false → c ≡ false → a || b || c ≡ false
none a b c p q r = cc

-- a model whose terms and side are those of one that passes, and whose numbers are finite, passes
pub alike-passes : (m k : IlluminationModel) → k.terms ≡ m.terms → k.side ≡ m.side → bad_model m ≡ false → not_finite_model k ≡ false → bad_model k ≡ false
unfolding bad_model bad_shape
alike-passes m k et es h f =
    let a = neither (bad_shape m) (not_finite_model m) h in
    let b = neither (bad_terms m.terms) (bad_model_side m.side) a.0 in
    none _ _ _ (ap bad_terms et ∙ b.0) (ap bad_model_side es ∙ b.1) f
