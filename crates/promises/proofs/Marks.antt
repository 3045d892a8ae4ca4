-- A mark is `is_held` of the gain, and `hold_gain` is the gain or 0.05 of its sign by the same test. A count of a test is at most the numbers that it is asked of, and 0 exactly where it holds of none
-- (crate `loops`). Assumes nothing.
use mathlib.Core.Path.{◌≡◌, refl, sym, ap, ◌∙◌}
use mathlib.Core.Bool.{Bool}
use mathlib.Core.Option.{none-ne-some, some-injective}
use Prim.Native.Nat.{ℕ, zero, suc}
use native.Mathlib.Omega.{arith}
use borrow.Author.Tests.{lt-ltb, le-ltb}
use lib.ListN.{length}
use lib.Ieee.{Float, lt, of_bits, round}
use Rattle.sentences.specs.Sentences.{refusal, decided}
use Rattle.loops.specs.Loops.{count_up}
use Rattle.loops.proofs.Laws.{any_up-none, any_up-false, count_up-most, count_up-zero, count_up-none}
use Rattle.answers.specs.Answers.{gives}
use Rattle.float.specs.Select.{abs}
use Rattle.color.specs.declared.Linear.{Linear}
use Rattle.illum.specs.declared.IlluminationModel.{IlluminationModel}
use Rattle.illum.specs.Surface.{least_gain, is_held, hold_gain, deshade}
use Rattle.illum.specs.Correct.{unshaded, mixed, held_at}
use Rattle.measure.specs.declared.Measurement.{Measurement}
use Rattle.measure.specs.Measure as measuring
use Rattle.scores.specs.Score.{chroma_held}
use Rattle.demod.specs.declared.ScoreReport.{ScoreReport}
use Rattle.demod.specs.Call as scoring
use Rattle.demod.proofs.Accepted.{report_is}
use Rattle.promises.specs.Marks.{Marks, Gains, Count, References, Reported}

-- ---- one colour

pub marks : (m : IlluminationModel) (x y : Float) (c : Linear) → Marks m x y c
unfolding unshaded mixed deshade hold_gain is_held held_at
marks m x y c =
    record {
      red = record { set = refl; divides = refl };
      green = record { set = refl; divides = refl };
      blue = record { set = refl; divides = refl };
      any = refl;
    }

pub gains : Gains
unfolding is_held least_gain abs lt of_bits round
gains =
    record {
      zero = refl;
      minus-zero = refl;
      under = refl;
      limit = refl;
      minus-under = refl;
      minus-limit = refl;
      one = refl;
      infinite = λ s. refl;
      no_number = refl;
    }

-- ---- counts

count : (p : ℕ → Bool) (n k : ℕ) → k ≡ count_up 0 n p → Count p n k
count p n k e =
    record {
      most = omega (arith, count_up-most p n 0);
      zero = λ z i h. any_up-false p n (count_up-zero p n 0 (sym e ∙ z)) i h;
      none = λ h. e ∙ count_up-none p n 0 (any_up-none p n h);
    }

module _ (q : measuring.Request) (r : Measurement) where
  given : (k : ℕ) → (decided k (measuring.turned_away q) (measuring.done q)).said ≡ gives r → r ≡ measuring.measurement q.model q.palette q.flat q.n
  unfolding decided
  given zero h = sym (some-injective _ r (ap (λ s. s.value) h))
  given (suc k) h = absurd (none-ne-some r (ap (λ s. s.value) h))

  pub references : (measuring.measure_of q).said ≡ gives r → References q r
  unfolding measuring.measure_of measuring.held_count
  references h =
      let e = ap (λ (m : Measurement). m.held) (given (refusal (measuring.sentences_of q)) h) in
      record {
        count = λ l. count (measuring.held_reference q.model q.flat) q.n r.held (rw (le-ltb q.n 8 l) at e);
        few = λ l. rw (lt-ltb q.n 8 l) at e;
      }

pub reported : (q : scoring.Request) (r : ScoreReport) → (scoring.scored_of q).answer ≡ gives r → Reported q r
unfolding scoring.report_of chroma_held
reported q r h =
    let e = report_is q r h in
    let cells = ap (λ (s : ScoreReport). s.held_cells) e in
    record {
      modules = count _ (length q.xs) r.held_modules (ap (λ (s : ScoreReport). s.held_modules) e);
      cells = λ o. count _ (length q.cxs) r.held_cells (rw o at cells);
      off = λ o. rw o at cells;
    }
