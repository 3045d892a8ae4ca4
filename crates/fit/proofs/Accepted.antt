-- What a fit knows past the sentences 2 to 8: each of them fails. Assumes nothing.
use mathlib.Core.Path.{◌≡◌, refl}
use mathlib.Core.Bool.{Bool, true, false}
use mathlib.Core.List.{List}
use Prim.Native.Nat.{ℕ, ◌*◌, ◌≤◌}
use lib.Ieee.{Float}
use Rattle.sentences.specs.Sentences.{refusal, at, fresh, sound}
use Rattle.sentences.proofs.Laws.{none-holds, neither, refuses, accepts}
use Rattle.limits.proofs.Laws.{side_in}
use borrow.Author.Tests.{ltb-false}
use lib.Dec.{ltb}
use Rattle.references.specs.References.{bad_positions, bad_colours, short_scratch, reference_placement}
use Rattle.references.proofs.Laws.{room_in, few_in}
use Rattle.illum.specs.declared.IlluminationModel.{IlluminationModel}
use Rattle.std.specs.Prelude.{Result, Err}
use Rattle.std.specs.Result.{IsErr, IsErrAnd}
use Rattle.answers.specs.declared.refusal.Refusal.{Refusal}
use Rattle.answers.specs.Answers.{number_of}
use Rattle.answers.proofs.Answers.{numbered, passed_on}
use Rattle.illum.specs.Refusals.{model_said}
use Rattle.fit.specs.Fit.{short, fit_sentences, Request, sentences_of, final, turned_away, done, fit_of}

pub record Accepted (flat : List Float) (n side marks lent : ℕ) : Type 0 where
  pub side-least : 1 ≤ side
  pub side-most : side ≤ 1024
  pub a_mark-each : n ≤ marks
  pub room : 4 * n ≤ lent
  pub few : n ≤ 16384
  pub placed : bad_positions side flat n ≡ false
  pub finite : bad_colours flat n ≡ false

lengths_in : (marks lent n : ℕ) → short marks lent n ≡ false → (n ≤ marks) × (4 * n ≤ lent)
unfolding short
lengths_in marks lent n h = let p = neither (ltb marks n) (short_scratch lent n) h in (ltb-false marks n p.0, room_in lent n p.1)

module _ (flat : List Float) (cut : Bool) (n side marks lent : ℕ) where
  sentences-sound : sound (fit_sentences flat cut n side marks lent) ≡ true
  unfolding fit_sentences reference_placement sound fresh
  sentences-sound = refl

  module _ (e : 0 ≡ refusal (fit_sentences flat cut n side marks lent)) where
    none : (m : ℕ) → at m (fit_sentences flat cut n side marks lent) ≡ false
    none m = none-holds (fit_sentences flat cut n side marks lent) sentences-sound m e

    lengths : (n ≤ marks) × (4 * n ≤ lent)
    unfolding fit_sentences at
    lengths = lengths_in marks lent n (neither cut (short marks lent n) (none 5)).1

    pub accepted : Accepted flat n side marks lent
    unfolding fit_sentences reference_placement at
    accepted =
        record {
          side-least = (side_in side (none 2)).0;
          side-most = (side_in side (none 2)).1;
          a_mark-each = lengths.0;
          room = lengths.1;
          few = few_in n (none 6);
          placed = none 7;
          finite = none 8;
        }

-- what a call gives: refused, or what the passes left
module _ (q : Request) where
  pub turned-away : (r : Refusal) → number_of r ≡ refusal (sentences_of q) → final (model_said (Err r)) q.kept q.scratch ≡ fit_of q
  unfolding fit_of
  turned-away r e = refuses (turned_away q) (done q) (number_of r) (refusal (sentences_of q)) (numbered r) e

  pub sent_back : (x : Result IlluminationModel Refusal) (r : Refusal) → IsErr x × IsErrAnd x (λ y. y ≡ r) → number_of r ≡ refusal (sentences_of q)
      → final (model_said x) q.kept q.scratch ≡ fit_of q
  sent_back x r p e = rw (passed_on x r p) (turned-away r e)

  pub taken : 0 ≡ refusal (sentences_of q) → done q ≡ fit_of q
  unfolding fit_of
  taken e = accepts (turned_away q) (done q) 0 (refusal (sentences_of q)) refl e
