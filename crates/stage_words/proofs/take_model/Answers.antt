-- `stage_words::take_model` meets its contract: each part stands behind those before it. Assumes nothing.
use Rattle.std.proofs.Common.{◌≡◌, ℕ, ◌+◌, ◌*◌, drop, get_or, refl, ap, ◌∙◌, arith}
use Rattle.illum.specs.Surface.{terms_used}
use Rattle.stage_words.specs.Records.{model_taken}
use Rattle.stage_words.proofs.Behind.{behind, first_behind}
use Rattle.stage_words.proofs.take_model.Goals as goal

pub returns : goal.returns
unfolding model_taken
returns c =
    let row = c.args.inputs.now.rest.now in
    let w = c.terms_used-width.result in
    let h1 = c.take-terms.ensures.rest in
    let h2 = behind row 1 1 2 h1 c.take-side.ensures.rest refl in
    let h3 = behind row 2 1 3 h2 c.take-residual_rms.ensures.rest refl in
    let h4 = behind row 3 1 4 h3 c.take-rejected.ensures.rest refl in
    let h5 = behind row 4 1 5 h4 c.take-kept.ensures.rest refl in
    let h6 = behind row 5 1 6 h5 c.take.ensures.rest refl in
    let a1 = behind row 6 4 10 h6 c.take_affine.ensures.rest refl in
    let a2 = behind row 10 4 14 a1 c.take_affine-2.ensures.rest refl in
    let a3 = behind row 14 4 18 a2 c.take_affine-3.ensures.rest refl in
    let s1 = behind row 18 w (18 + w) a3 c.take_surface.ensures.rest refl in
    let s2 = behind row (18 + w) w (18 + 2 * w) s1 c.take_surface-2.ensures.rest (omega arith) in
    let s3 = behind row (18 + 2 * w) w (18 + 3 * w) s2 c.take_surface-3.ensures.rest (omega arith) in
    let s4 = behind row (18 + 3 * w) w (18 + 4 * w) s3 c.take_surface-4.ensures.rest (omega arith) in
    let s5 = behind row (18 + 4 * w) w (18 + 5 * w) s4 c.take_surface-5.ensures.rest (omega arith) in
    let s6 = behind row (18 + 5 * w) w (18 + 6 * w) s5 c.take_surface-6.ensures.rest (omega arith) in
    let e : w ≡ terms_used (get_or row 5 0) = c.terms_used-width.ensures ∙ ap terms_used (c.take.ensures.value ∙ first_behind row 5 h5) in
    record {
      value = cc (first_behind row 1 h1, first_behind row 2 h2, first_behind row 3 h3, first_behind row 4 h4);
      rest = s6 ∙ ap (λ (n : ℕ). drop (18 + 6 * n) row) e;
    }
