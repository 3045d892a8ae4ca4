-- `measure::measure_counted` meets its contract: the number that was found, or the record, with the scratch that was used cleared. Assumes nothing.
use mathlib.Core.Path.{◌≡◌, sym, ap, ◌∙◌}
use mathlib.Core.Bool.{false}
use mathlib.Core.List.{List, ◌++◌}
use Prim.Native.Nat.{ℕ, ◌*◌, ◌≤◌}
use native.Mathlib.Omega.{arith}
use lib.ListN.{length, take, drop, replicate, length-append}
use lib.Seq.{length-take-le, drop_at}
use lib.Ieee.{Float}
use Rattle.sentences.specs.Sentences.{refusal}
use Rattle.answers.specs.Answers.{gives}
use Rattle.order.specs.Median.{zero32}
use Rattle.order.specs.Deviation.{cleared}
use Rattle.illum.specs.declared.IlluminationModel.{IlluminationModel}
use Rattle.references.specs.References.{wild_colours}
use Rattle.measure.specs.declared.Measurement.{Measurement}
use Rattle.measure.specs.Measure.{bad_corrected, measurement, final, request, sentences_for, measure_of}
use Rattle.measure.specs.Ready.{Scratch}
use Rattle.measure.proofs.Accepted.{accepted, sent_back, taken}
use Rattle.measure.proofs.measure_counted.Goals as goal

-- s is lent, and no sentence holds
module _ (flat palette s : List Float) (n side hues : ℕ) (m : IlluminationModel) (e : 0 ≡ refusal (sentences_for flat false n side m palette hues (length s))) where
  room : 4 * n ≤ length s
  room = (accepted flat false n side m palette hues (length s) e).room

  four : 4 * n ≡ length (take (4 * n) s)
  four = sym (length-take-le (4 * n) s room)

  ready : Scratch n (take (4 * n) s) × (wild_colours flat n ≡ false) × (bad_corrected m flat n ≡ false)
  ready =
      let a = accepted flat false n side m palette hues (length s) e in
      (record { most = a.few; four = sym four }, a.colours, a.corrected)

  -- u is the first 4 × n numbers of s as the core left them
  module _ (u : List Float) (lu : length u ≡ length (take (4 * n) s)) where
    long : 4 * n ≤ length (u ++ drop (4 * n) s)
    long = omega (arith, length-append u (drop (4 * n) s), four)

    past : cleared (4 * n) (u ++ drop (4 * n) s) ≡ cleared (4 * n) s
    past = ap (λ (l : List Float). replicate (4 * n) zero32 ++ l) (drop_at u (drop (4 * n) s) (4 * n) (lu ∙ sym four))

    -- and t what is left after clearing
    ends : (t : List Float) (r : Measurement) → r ≡ measurement m palette flat n → t ≡ cleared (4 * n) (u ++ drop (4 * n) s) → final (gives r) t ≡ measure_of (request flat false n side m palette hues s)
    ends t r er ec =
        ap (final (gives r)) (ec ∙ past) ∙ ap (λ (x : Measurement). final (gives x) (cleared (4 * n) s)) er
        ∙ taken (request flat false n side m palette hues s) e

pub returns-in_err-check : goal.returns-in_err-check
returns-in_err-check c = sent_back _ _ _ c.from_residual.ensures c.in_err-check.ensures

pub overflow_mul-n : goal.overflow_mul-n
overflow_mul-n c = omega (arith, (accepted _ _ _ _ _ _ _ _ c.in_ok-check.ensures).few)

pub slice_bounds-measurement_of-end : goal.slice_bounds-measurement_of-end
slice_bounds-measurement_of-end c = room _ _ _ _ _ _ _ c.in_ok-check.ensures

pub slice_bounds-measurement_of-end-2 : goal.slice_bounds-measurement_of-end-2
slice_bounds-measurement_of-end-2 c = four _ _ _ _ _ _ _ c.in_ok-check.ensures

pub measurement_of-measurement-requires-clause-scratch : goal.measurement_of-measurement-requires-clause-scratch
measurement_of-measurement-requires-clause-scratch c = (ready _ _ _ _ _ _ _ c.in_ok-check.ensures).0

pub measurement_of-measurement-requires-clause-passed : goal.measurement_of-measurement-requires-clause-passed
measurement_of-measurement-requires-clause-passed c = let r = ready _ _ _ _ _ _ _ c.in_ok-check.ensures in (r.1, r.2)

pub invariant_of-references : goal.invariant_of-references
invariant_of-references c =
    record { stand = c.requires (accepted _ _ _ _ _ _ _ _ c.in_ok-check.ensures).few }

pub invariant_of-palette : goal.invariant_of-palette
invariant_of-palette c = record { long = (accepted _ _ _ _ _ _ _ _ c.in_ok-check.ensures).long }

pub overflow_mul-n-2 : goal.overflow_mul-n-2
overflow_mul-n-2 c = omega (arith, (accepted _ _ _ _ _ _ _ _ c.in_ok-check.ensures).few)

pub clear-requires : goal.clear-requires
clear-requires c = long _ _ _ _ _ _ _ c.in_ok-check.ensures _ c.measurement_of-measurement.auto.s

pub returns : goal.returns
returns c = ends _ _ _ _ _ _ _ c.in_ok-check.ensures _ c.measurement_of-measurement.auto.s _ _ c.measurement_of-measurement.ensures c.clear.ensures
