-- What an answer makes of the text: where the file or a call is refused, the line of its number; else what comes next, on what it left. Assumes nothing.
use mathlib.Core.Path.{◌≡◌, refl, ap, ◌∙◌}
use mathlib.Core.List.{List}
use Prim.Native.Nat.{ℕ, ◌+◌, ◌*◌, ◌^◌, ◌<◌}
use native.Mathlib.Omega.{arith}
use lib.IntN.{ℤ}
use lib.Ieee.{Float}
use Rattle.sentences.proofs.Laws.{refuses, accepts}
use Rattle.card.specs.declared.Settings.{Settings}
use Rattle.card.specs.declared.Card.{Card}
use Rattle.std.specs.Prelude.{Result, Ok, Err}
use Rattle.answers.specs.declared.refusal.Refusal.{Refusal}
use Rattle.answers.specs.Answers.{number_of, said}
use Rattle.answers.proofs.Answers.{numbered}
use Rattle.card.specs.File.{opened}
use Rattle.listing.specs.Text.{Text, written}
use Rattle.listing.specs.Listing.{refused_line}
use Rattle.illum.specs.declared.IlluminationModel.{IlluminationModel}
use Rattle.illum.specs.Correct.{no_model}
use Rattle.illum.specs.Refusals.{model_said}
use Rattle.fit.specs.Fit as fitting
use Rattle.measure.specs.declared.Measurement.{Measurement}
use Rattle.measure.specs.Measure as measuring
use Rattle.readout.specs.Sheet.{sheet}
use Rattle.readout.specs.Reading.{score_text}
use Rattle.reader.specs.File.{floats_of, Modules, Cells, sheet_of, references_of}
use Rattle.reader.specs.Fitting.{scratch_of, marks_of, after_measuring, measure_text, Typed, TypedModel, fitted, after_fitting, fit_text}
use Rattle.reader.specs.Text.{after_opening, card_text}

-- ---- measuring and fitting

module _ (s : Settings) (palette : List Float) (xs ys : List ℤ) (raw : List Float) (cxs cys : List ℕ) (craw : List Float) (m : IlluminationModel) (t u : Text) where
  module _ (references : List Float) where
    module _ (o : Result Measurement Refusal) (left scratch : List Float) (p : measuring.final (said o) left ≡ measuring.measure_of (measuring.flat_request references s.side m palette s.hues scratch)) (z : scratch ≡ scratch_of references) where
      answers : said o ≡ (measuring.measure_of (measuring.flat_request references s.side m palette s.hues (scratch_of references))).said
      answers = ap (λ (f : measuring.Final). f.said) (rw z at p)

      pub measured : (n : Measurement) → o ≡ Ok n → u ≡ written (score_text (sheet s palette xs ys raw cxs cys craw) m n.noise) t → u ≡ written (measure_text (sheet s palette xs ys raw cxs cys craw) references m) t
      unfolding measure_text after_measuring
      measured n e g = rw (← answers, e) g

      pub not-measured : (r : Refusal) (k : ℕ) → k ≡ number_of r → o ≡ Err r → u ≡ written (refused_line k) t → u ≡ written (measure_text (sheet s palette xs ys raw cxs cys craw) references m) t
      unfolding measure_text after_measuring
      not-measured r k f e g = rw (← answers, e, ← f) g

module _ (s : Settings) (palette : List Float) (xs ys : List ℤ) (raw : List Float) (cxs cys : List ℕ) (craw references : List Float) (o : Result IlluminationModel Refusal) (marked kept : List ℕ) (left scratch : List Float)
    (p : fitting.final (model_said o) marked left ≡ fitting.fit_of (fitting.flat_request references s.side s.version kept scratch)) (k : kept ≡ marks_of references) (z : scratch ≡ scratch_of references) where
  gives : model_said o ≡ (fitting.fit_of (fitting.flat_request references s.side s.version (marks_of references) (scratch_of references))).answer
  gives = ap (λ (f : fitting.Final). f.answer) (rw (k, z) at p)

  pub typed : Typed (model_said o) → Typed (fitted (sheet s palette xs ys raw cxs cys craw) references)
  typed h = rw (← gives) h

  pub typed_err : (r : Refusal) (i : ℕ) → i ≡ number_of r → o ≡ Err r → i < 2 ^ 32 → Typed (fitted (sheet s palette xs ys raw cxs cys craw) references)
  unfolding no_model
  typed_err r i f e h = typed (rw e (record { number = omega arith; terms = omega arith; kept = omega arith; rejected = omega arith }))

  pub typed_ok : (k : IlluminationModel) → o ≡ Ok k → TypedModel k → Typed (fitted (sheet s palette xs ys raw cxs cys craw) references)
  typed_ok k e h = typed (rw e (record { number = omega arith; terms = h.terms; kept = h.kept; rejected = h.rejected }))

  module _ (t u : Text) where
    pub has-fitted : (k : IlluminationModel) → o ≡ Ok k → u ≡ written (measure_text (sheet s palette xs ys raw cxs cys craw) references k) t → u ≡ written (fit_text (sheet s palette xs ys raw cxs cys craw) references) t
    unfolding fit_text after_fitting
    has-fitted k e g = rw (← gives, e) (g ∙ ap (λ (l : List ℕ). written l t) (accepts refused_line (measure_text (sheet s palette xs ys raw cxs cys craw) references k) 0 0 refl refl))

    pub not-fitted : (r : Refusal) (i : ℕ) → i ≡ number_of r → o ≡ Err r → u ≡ written (refused_line i) t → u ≡ written (fit_text (sheet s palette xs ys raw cxs cys craw) references) t
    unfolding fit_text after_fitting
    not-fitted r i f e g =
        rw (← gives, e)
        (g ∙ ap (λ (n : ℕ). written (refused_line n) t) f ∙ ap (λ (l : List ℕ). written l t) (refuses refused_line (measure_text (sheet s palette xs ys raw cxs cys craw) references (model_said (Err r)).model) (number_of r) (number_of r) (numbered r) refl))

-- ---- opening

module _ (file : List ℕ) (o : Result Card Refusal) (p : said o ≡ opened 5 file) (t u : Text) where
  pub not_opened : (r : Refusal) (n : ℕ) → n ≡ number_of r → o ≡ Err r → u ≡ written (refused_line n) t → u ≡ written (card_text file) t
  unfolding card_text after_opening
  not_opened r n f e g = rw (← p, e, ← f) g

  pub opens : (c : Card) → o ≡ Ok c → u ≡ written (fit_text (sheet_of file c) (references_of file c)) t → u ≡ written (card_text file) t
  unfolding card_text after_opening
  opens c e g = rw (← p, e) g

-- ---- decoding: the lists of the sections are the sheet and the references

module _ (file : List ℕ) (c : Card) (p : List Float) (xs ys : List ℤ) (raw : List Float) (cxs cys : List ℕ) (craw r : List Float)
    (a : p ≡ floats_of file c.palette (2 + 8 * c.settings.hues)) (b : r ≡ floats_of file c.references.at (8 * c.references.count))
    (d : Modules file c.modules.at c.modules.count xs ys raw) (e : Cells file c.cells.at c.cells.count cxs cys craw) where
  sheet_is : sheet c.settings p xs ys raw cxs cys craw ≡ sheet_of file c
  unfolding sheet_of
  sheet_is = rw (a, d.xs_are, d.ys_are, d.raw_are, e.xs_are, e.ys_are, e.raw_are)

  references_are : r ≡ references_of file c
  unfolding references_of
  references_are = rw b

  pub decoded : (t u : Text) → u ≡ written (fit_text (sheet c.settings p xs ys raw cxs cys craw) r) t → u ≡ written (fit_text (sheet_of file c) (references_of file c)) t
  decoded t u h = rw (sheet_is, references_are) at h

  pub decoded-typed : Typed (fitted (sheet c.settings p xs ys raw cxs cys craw) r) → Typed (fitted (sheet_of file c) (references_of file c))
  decoded-typed h = rw (sheet_is, references_are) at h
