-- What `measure` knows past its sentences: each of them fails. And what a call gives by its number. Assumes nothing.
use mathlib.Core.Path.{◌≡◌, refl, sym, ◌∙◌}
use mathlib.Core.Bool.{Bool, true, false, ◌||◌}
use mathlib.Core.List.{List}
use Prim.Native.Nat.{ℕ, ◌*◌, ◌≤◌}
use native.Mathlib.Omega.{arith}
use lib.ListN.{length}
use lib.Ieee.{Float}
use Rattle.sentences.specs.Sentences.{refusal, at, fresh, sound}
use Rattle.sentences.proofs.Laws.{none-holds, neither, refuses, accepts}
use Rattle.limits.proofs.Laws.{side_in}
use Rattle.std.specs.Prelude.{Result, Err}
use Rattle.std.specs.Result.{IsErr, IsErrAnd}
use Rattle.answers.specs.declared.refusal.Refusal.{Refusal}
use Rattle.answers.specs.Answers.{number_of, said}
use Rattle.answers.proofs.Answers.{numbered, passed_on}
use Rattle.measure.specs.declared.Measurement.{Measurement}
use Rattle.color.specs.Palette.{palette_len, wild_palette}
use Rattle.illum.specs.declared.IlluminationModel.{IlluminationModel}
use Rattle.illum.specs.Refusals.{bad_model}
use Rattle.references.specs.References.{bad_positions, wild_colours, short_scratch, reference_placement}
use Rattle.references.proofs.Laws.{room_in, few_in}
use Rattle.stats.specs.Calls.{short_palette}
use Rattle.stats.proofs.Passed.{palette-long}
use Rattle.measure.specs.Measure.{too_short, wild_numbers, bad_corrected, sentences_for, Request, sentences_of, final, turned_away, done, measure_of}

pub record Accepted (flat : List Float) (n side : ℕ) (m : IlluminationModel) (palette : List Float) (hues lent : ℕ) : Type 0 where
  pub side-most : side ≤ 1024
  pub long : palette_len hues ≤ length palette
  pub levels : 2 ≤ length palette
  pub room : 4 * n ≤ lent
  pub few : n ≤ 16384
  pub placed : bad_positions side flat n ≡ false
  pub colours : wild_colours flat n ≡ false
  pub numbers : wild_palette palette hues ≡ false
  pub sound-model : bad_model m ≡ false
  pub corrected : bad_corrected m flat n ≡ false

module _ (cut : Bool) (palette : List Float) (hues lent n : ℕ) where
  lengths : too_short cut palette hues lent n ≡ false → (palette_len hues ≤ length palette) × (4 * n ≤ lent)
  unfolding too_short
  lengths h =
      let p = neither cut (short_palette palette hues || short_scratch lent n) h in
      let q = neither (short_palette palette hues) (short_scratch lent n) p.1 in
      (palette-long palette hues q.0, room_in lent n q.1)

  -- r is what the code's test gave
  pub palette_in : (r : Bool) → r ≡ too_short cut palette hues lent n → r ≡ false → palette_len hues ≤ length palette
  palette_in r e f = (lengths (sym e ∙ f)).0

tame : (flat : List Float) (n : ℕ) (palette : List Float) (hues : ℕ) → wild_numbers flat n palette hues ≡ false → (wild_colours flat n ≡ false) × (wild_palette palette hues ≡ false)
unfolding wild_numbers
tame flat n palette hues h = neither (wild_colours flat n) (wild_palette palette hues) h

module _ (flat : List Float) (cut : Bool) (n side : ℕ) (m : IlluminationModel) (palette : List Float) (hues lent : ℕ) where
  sentences-sound : sound (sentences_for flat cut n side m palette hues lent) ≡ true
  unfolding sentences_for reference_placement sound fresh
  sentences-sound = refl

  module _ (e : 0 ≡ refusal (sentences_for flat cut n side m palette hues lent)) where
    none : (j : ℕ) → at j (sentences_for flat cut n side m palette hues lent) ≡ false
    none j = none-holds (sentences_for flat cut n side m palette hues lent) sentences-sound j e

    pub accepted : Accepted flat n side m palette hues lent
    unfolding sentences_for reference_placement at
    accepted =
        let l = lengths cut palette hues lent n (none 5) in
        let t = tame flat n palette hues (none 8) in
        record {
          side-most = (side_in side (none 2)).1;
          long = l.0;
          levels = omega (arith, l.0);
          room = l.1;
          few = few_in n (none 6);
          placed = none 7;
          colours = t.0;
          numbers = t.1;
          sound-model = none 10;
          corrected = none 12;
        }

-- what a call gives: refused, or the measurement
module _ (q : Request) where
  pub turned-away : (r : Refusal) → number_of r ≡ refusal (sentences_of q) → final (said (Err r)) q.scratch ≡ measure_of q
  unfolding measure_of
  turned-away r e = refuses (turned_away q) (done q) (number_of r) (refusal (sentences_of q)) (numbered r) e

  pub sent_back : (x : Result Measurement Refusal) (r : Refusal) → IsErr x × IsErrAnd x (λ y. y ≡ r) → number_of r ≡ refusal (sentences_of q)
      → final (said x) q.scratch ≡ measure_of q
  sent_back x r p e = rw (passed_on x r p) (turned-away r e)

  pub taken : 0 ≡ refusal (sentences_of q) → done q ≡ measure_of q
  unfolding measure_of
  taken e = accepts (turned_away q) (done q) 0 (refusal (sentences_of q)) refl e
