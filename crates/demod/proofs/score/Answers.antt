-- `score` meets its contract: a refused call gives its number and writes nothing; an accepted one writes every score and reports. Assumes nothing.
use mathlib.Core.Path.{◌≡◌, ◌∙◌}
use mathlib.Core.List.{List}
use Prim.Native.Nat.{ℕ}
use lib.IntN.{ℤ}
use lib.Ieee.{Float}
use Rattle.sentences.specs.Sentences.{refusal}
use Rattle.layout.specs.declared.Layout.{Layout}
use Rattle.demod.specs.declared.ScoreReport.{ScoreReport}
use Rattle.std.specs.Prelude.{Result, Ok}
use Rattle.std.specs.Result.{IsErr, IsErrAnd}
use Rattle.answers.specs.declared.refusal.Refusal.{Refusal}
use Rattle.answers.specs.Answers.{number_of}
use Rattle.answers.proofs.Answers.{numbered, passed_on}
use Rattle.illum.specs.declared.IlluminationModel.{IlluminationModel}
use Rattle.stats.specs.declared.ChannelStats.{ChannelStats}
use Rattle.demod.specs.Ready.{Scorable}
use Rattle.demod.specs.Call.{Request, request, sentences_of, final, done, scored_of}
use Rattle.demod.proofs.Accepted.{turned-away, taken, accepted}
use Rattle.demod.proofs.score.Goals as goal

module _ (q : Request) (luma colours chroma : List Float) where
  away : (x : Result ScoreReport Refusal) (r : Refusal) → IsErr x × IsErrAnd x (λ y. y ≡ r) → number_of r ≡ refusal (sentences_of q) → luma ≡ q.luma → colours ≡ q.colours → chroma ≡ q.chroma →
      final x luma colours chroma ≡ scored_of q
  away x r p e el ec eh = rw (passed_on x r p, el, ec, eh) (turned-away q (number_of r) e (numbered r))

  wrote : (r : ScoreReport) → 0 ≡ refusal (sentences_of q) → final (Ok r) luma colours chroma ≡ done q → final (Ok r) luma colours chroma ≡ scored_of q
  wrote r e h = h ∙ taken q e

-- an accepted call hands over what can be scored
scorable : (layout : Layout) (xs ys : List ℤ) (raw : List Float) (cxs cys : List ℕ) (craw palette : List Float) (model : IlluminationModel) (noise : ChannelStats) (luma colours chroma : List Float) →
    0 ≡ refusal (sentences_of (request layout xs ys raw cxs cys craw palette model noise luma colours chroma)) → Scorable layout xs ys raw cxs cys craw palette luma colours chroma
scorable layout xs ys raw cxs cys craw palette model noise luma colours chroma e =
    let a = accepted (request layout xs ys raw cxs cys craw palette model noise luma colours chroma) e in
    let l = a.lengths in
    record {
      seen = a.seen;
      palette-long = l.palette-long;
      luma-long = l.scores;
      colours-three = l.places;
      chroma-long = l.chroma-long;
    }

pub returns-in_err-check : goal.returns-in_err-check
returns-in_err-check c = search (away, c.in_err-check.ensures)

pub write_scores-requires : goal.write_scores-requires
write_scores-requires c = scorable _ _ _ _ _ _ _ _ _ _ _ _ _ c.in_ok-check.ensures

pub returns : goal.returns
returns c = search (wrote, c.in_ok-check.ensures)
