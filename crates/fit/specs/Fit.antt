-- The fit: two passes with a rejection between them, the marks of the references that were kept, and the refusals of `fit_flat` and
-- `fit_counted`. Definitions only.
use Rattle.std.specs.Prelude.{◌≡◌, Bool, cond, not, ◌||◌, List, [], ◌∷◌, ◌++◌, ℕ, ◌+◌, ◌*◌, ◌/◌, ◌%◌, ltb, eqb, length, get_or, Float, Option, Some, None, Result, Ok, Err}
use Rattle.std.specs.Option.{option_map}
use Rattle.std.specs.Float.{nan}
use Rattle.loops.specs.Loops.{any_up, count_up}
use Rattle.lists.specs.Lists.{replaced}
use Rattle.sentences.specs.Sentences.{Sentence, ◌when◌, refusal, decided}
use Rattle.limits.specs.Limits.{bad_side}
use Rattle.order.specs.Deviation.{cleared}
use Rattle.illum.specs.declared.IlluminationModel.{IlluminationModel}
use Rattle.illum.specs.Correct.{unit_model}
use Rattle.answers.specs.declared.refusal.Refusal.{Refusal}
use Rattle.answers.specs.declared.refusal.Refusal.TheVariants.{Fit}
use Rattle.answers.specs.Answers.{number_of}
use Rattle.illum.specs.Refusals.{not_finite_at, not_finite_model, Modelled, modelled, refused_model}
use Rattle.references.specs.References.{bad_colours, short_scratch, reference_placement}
use Rattle.equations.specs.Live.{live_marks, is_live_mark, live_count}
use Rattle.equations.specs.Once.{fit_once}
use Rattle.residuals.specs.Residual.{residuals_of, rms_of, limit_of, Rejection, reject_above}

-- ---- the model's counts and its residual

abbrev pub with_rms : IlluminationModel → Float → IlluminationModel
with_rms m v =
    record {
      affine_r = m.affine_r;
      affine_g = m.affine_g;
      affine_b = m.affine_b;
      gain_r = m.gain_r;
      gain_g = m.gain_g;
      gain_b = m.gain_b;
      flare_r = m.flare_r;
      flare_g = m.flare_g;
      flare_b = m.flare_b;
      terms = m.terms;
      side = m.side;
      residual_rms = v;
      rejected = m.rejected;
      kept = m.kept;
    }

abbrev pub with_counts : IlluminationModel → ℕ → ℕ → IlluminationModel
with_counts m rejected kept =
    record {
      affine_r = m.affine_r;
      affine_g = m.affine_g;
      affine_b = m.affine_b;
      gain_r = m.gain_r;
      gain_g = m.gain_g;
      gain_b = m.gain_b;
      flare_r = m.flare_r;
      flare_g = m.flare_g;
      flare_b = m.flare_b;
      terms = m.terms;
      side = m.side;
      residual_rms = m.residual_rms;
      rejected = rejected;
      kept = kept;
    }

-- ---- one pass: fitted, its residuals, and whether sentence 11 holds after it

-- 11: "After a pass of `fit`, a number of the model or a reference's residual is not finite."
unfoldable pub bad_pass : IlluminationModel → List Float → ℕ → Bool
bad_pass m residuals n = not_finite_model m || any_up 0 n (not_finite_at residuals)

-- a solution with the root mean square of its residuals
abbrev pub measured : List Float → List Float → ℕ → IlluminationModel → IlluminationModel
measured residuals live n m = with_rms m (rms_of residuals live n)

-- the model that a pass over the live references gives, where it has a solution
abbrev pub solution_of : IlluminationModel → List Float → List Float → ℕ → Option IlluminationModel
solution_of m flat live n = option_map (λ k. measured (residuals_of k flat n) live n k) (fit_once m flat live n)

-- no solution, a model that sentence 11 lets pass, or refused by 11
abbrev pub looked_at : List Float → ℕ → Option IlluminationModel → Result (Option IlluminationModel) Refusal
looked_at flat n None = Ok None
looked_at flat n (Some m) = cond (bad_pass m (residuals_of m flat n) n) (Err Fit) (Ok (Some m))

unfoldable pub pass_of : IlluminationModel → List Float → List Float → ℕ → Result (Option IlluminationModel) Refusal
pass_of m flat live n = looked_at flat n (solution_of m flat live n)

-- ---- two passes

-- the answer, and the references that are live at the end
pub record Ran : Type 0 where
  pub answer : Modelled
  pub live : List Float

abbrev pub ran : Modelled → List Float → Ran
ran r live = record { answer = r; live = live }

-- pass two from model m: where it has no solution m stays, with kept 0
abbrev pub concluded : IlluminationModel → List Float → ℕ → Result (Option IlluminationModel) Refusal → Modelled
concluded m live n (Ok None) = modelled 0 m
concluded m live n (Ok (Some k)) = modelled 0 (with_counts k k.rejected (live_count live n))
concluded m live n (Err r) = refused_model (number_of r)

-- a model with its count of rejected references, and which are live
pub record Dropped : Type 0 where
  pub model : IlluminationModel
  pub live : List Float

abbrev pub dropped : IlluminationModel → List Float → Dropped
dropped m live = record { model = m; live = live }

abbrev pub counted : IlluminationModel → Rejection → Dropped
counted m r = dropped (with_counts m r.rejected m.kept) r.live

-- references above 3 × sigma dropped
unfoldable pub dropped_of : IlluminationModel → List Float → List Float → ℕ → Dropped
dropped_of m residuals live n = counted m (reject_above residuals (limit_of residuals) n live)

abbrev pub second_pass : List Float → ℕ → Dropped → Ran
second_pass flat n d = ran (concluded d.model d.live n (pass_of d.model flat d.live n)) d.live

-- the model of pass one, with its residuals
unfoldable pub refitted : IlluminationModel → List Float → List Float → List Float → ℕ → Ran
refitted m flat residuals live n = second_pass flat n (dropped_of m residuals live n)

-- pass one from the unit model
abbrev pub first_pass : IlluminationModel → List Float → ℕ → Result (Option IlluminationModel) Refusal → Ran
first_pass start flat n (Ok None) = ran (modelled 0 start) (live_marks n)
first_pass start flat n (Ok (Some m)) = refitted m flat (residuals_of m flat n) (live_marks n) n
first_pass start flat n (Err r) = ran (refused_model (number_of r)) (live_marks n)

-- the Rust's `fit`; number 11 where a pass gave something that is not finite
unfoldable pub fitted : List Float → ℕ → ℕ → ℕ → Ran
fitted flat n side terms =
    let start = unit_model side terms in
    cond (ltb n 8) (ran (modelled 0 start) (live_marks n)) (first_pass start flat n (pass_of start flat (live_marks n) n))

-- "Version 9: 4 terms; 10: 9 terms"
unfoldable pub terms_for : ℕ → ℕ
terms_for version = cond (ltb version 10) 4 9

-- ---- which references were kept

-- "The fit therefore also gives back which references were kept, none where kept is 0": of the live ones, `count` of which the model counts as kept
unfoldable pub mark_of : ℕ → Float → ℕ
mark_of count mark = cond (eqb count 0) 0 (cond (is_live_mark mark) 1 0)

abbrev pub kept_mark : ℕ → List Float → ℕ → ℕ
kept_mark count live i = mark_of count (get_or live i nan)

abbrev pub mark_at : ℕ → List Float → ℕ → ℕ → ℕ
mark_at count live i b = kept_mark count live i

-- one a reference
abbrev pub marks_of : ℕ → List Float → ℕ → List ℕ → List ℕ
marks_of count live n marks = replaced 0 n (mark_at count live) marks

-- by the passes' number: 11 leaves the marks as they were
unfoldable pub marks_left : ℕ → ℕ → List Float → ℕ → List ℕ → List ℕ
marks_left number count live n marks = decided number (λ (k : ℕ). marks) (marks_of count live n marks)

-- mark i is v
unfoldable pub is_mark : ℕ → List ℕ → ℕ → Bool
is_mark v marks i = eqb (get_or marks i 0) v

-- how many of the first n are
abbrev pub marked : ℕ → List ℕ → ℕ → ℕ
marked v marks n = count_up 0 n (is_mark v marks)

-- the marks of n references are 0 and 1; the 1s are as many as the model's kept ones, so that all are 0 where none is kept; and where some are,
-- the 0s are the rejected ones
pub record MarksAddUp (n : ℕ) (m : IlluminationModel) (marks : List ℕ) : Type 0 where
  pub all : marked 0 marks n + marked 1 marks n ≡ n
  pub ones : marked 1 marks n ≡ m.kept
  pub zeros : (m.kept ≡ 0 → ⊥) → marked 0 marks n ≡ m.rejected

-- ---- the calls

-- what a call is handed: n references in flat floats, of which the last is cut off where `cut`
pub record Request : Type 0 where
  pub flat : List Float
  pub cut : Bool
  pub n : ℕ
  pub side : ℕ
  pub version : ℕ
  pub kept : List ℕ
  pub scratch : List Float

abbrev pub request : List Float → Bool → ℕ → ℕ → ℕ → List ℕ → List Float → Request
request flat cut n side version kept scratch = record { flat = flat; cut = cut; n = n; side = side; version = version; kept = kept; scratch = scratch }

-- eight floats a reference
abbrev pub flat_request : List Float → ℕ → ℕ → List ℕ → List Float → Request
flat_request flat side version kept scratch = request flat (not (eqb (length flat % 8) 0)) (length flat / 8) side version kept scratch

-- 5: one mark a reference, and scratch of 4 × references
unfoldable pub short : ℕ → ℕ → ℕ → Bool
short marks lent n = ltb marks n || short_scratch lent n

-- in checking order
unfoldable pub fit_sentences : List Float → Bool → ℕ → ℕ → ℕ → ℕ → List Sentence
fit_sentences flat cut n side marks lent =
    (2 when bad_side side) ∷
    (5 when (cut || short marks lent n)) ∷
    (reference_placement side flat n ++ ((8 when bad_colours flat n) ∷ []))

abbrev pub sentences_of : Request → List Sentence
sentences_of q = fit_sentences q.flat q.cut q.n q.side (length q.kept) (length q.scratch)

-- what it gives back
pub record Final : Type 0 where
  pub answer : Modelled
  pub kept : List ℕ
  pub scratch : List Float

abbrev pub final : Modelled → List ℕ → List Float → Final
final r kept scratch = record { answer = r; kept = kept; scratch = scratch }

-- refused by sentence n: nothing changes
abbrev pub turned_away : Request → ℕ → Final
turned_away q n = final (refused_model n) q.kept q.scratch

-- what the passes give
abbrev pub ran_of : Request → Ran
ran_of q = fitted q.flat q.n q.side (terms_for q.version)

-- after the passes, with n marks and the scratch that they used: the marks are written, save by 11; scratch is all zero, and its tail stays
abbrev pub left : ℕ → List ℕ → List Float → Ran → Final
left n kept scratch x = final x.answer (marks_left x.answer.number x.answer.model.kept x.live n kept) (cleared (4 * n) scratch)

-- accepted, or refused by 11
abbrev pub done : Request → Final
done q = left q.n q.kept q.scratch (ran_of q)

unfoldable pub fit_of : Request → Final
fit_of q = decided (refusal (sentences_of q)) (turned_away q) (done q)
