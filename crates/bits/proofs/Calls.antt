-- What each call's answer makes of the memory: where it is refused, its number and the memory as it left it; where it is accepted, what the calls after it make of that. Assumes nothing.
use mathlib.Core.Path.{◌≡◌, refl, sym, ap}
use mathlib.Core.List.{List}
use Prim.Native.Nat.{ℕ}
use lib.IntN.{ℤ}
use lib.Ieee.{Float}
use Rattle.std.specs.Prelude.{Result, Ok, Err}
use Rattle.std.specs.Result.{IsErr, IsErrAnd}
use Rattle.sentences.specs.Sentences.{decided}
use Rattle.sentences.proofs.Laws.{refuses}
use Rattle.layout.specs.declared.Layout.{Layout}
use Rattle.answers.specs.declared.refusal.Refusal.{Refusal}
use Rattle.answers.specs.Answers.{number_of, said, ended}
use Rattle.answers.proofs.Answers.{numbered, passed_on}
use Rattle.modulate.specs.Score.{unmask_luma_of}
use Rattle.reading.specs.Read.{read_list_of}
use Rattle.illum.specs.declared.IlluminationModel.{IlluminationModel}
use Rattle.stats.specs.declared.ChannelStats.{ChannelStats}
use Rattle.demod.specs.declared.ScoreReport.{ScoreReport}
use Rattle.demod.specs.Call as scoring
use Rattle.demod.proofs.Accepted.{report_is}
use Rattle.refine.specs.Calls as refinement
use Rattle.guarantee.specs.Card.{Setting, Card}
use Rattle.bits.specs.Reading.{Lent, Left, leaving, left, stopped, setting, card, read_of}

-- `?` passes a refusal on: it stops the calls
module _ (x : Result ScoreReport Refusal) (r : Refusal) (p : IsErr x × IsErrAnd x (λ y. y ≡ r)) where
  stops : (m : Lent) (next : Left) → leaving (said x) m ≡ decided (number_of r) (stopped m) next
  stops m next = rw (passed_on x r p) (refuses (stopped m) next (number_of r) (number_of r) (numbered r) refl)

module _ (q : Layout) (xs ys : List ℤ) (raw : List Float) (cxs cys : List ℕ) (craw palette : List Float) (mask : ℕ) (model : IlluminationModel) (noise : ChannelStats)
    (luma colours chroma scratch : List Float) (bits symbols : List ℕ) where
  abbrev s : Setting
  s = setting q xs ys cxs cys palette mask model noise

  abbrev c : Card
  c = card raw craw luma colours chroma scratch bits symbols

  abbrev to_score : scoring.Request
  to_score = scoring.request q xs ys raw cxs cys craw palette model noise luma colours chroma

  module _ (x : Result ScoreReport Refusal) (r : Refusal) (p : IsErr x × IsErrAnd x (λ y. y ≡ r)) (l d h : List Float) where
    pub not-scored : scoring.final (Err r) l d h ≡ scoring.scored_of to_score → left x l d h scratch bits symbols ≡ read_of s c
    unfolding read_of
    not-scored e = rw (← e) (stops x r p _ _)

  -- scoring is done
  module _ (report : ScoreReport) (l d h : List Float) (e : scoring.final (Ok report) l d h ≡ scoring.scored_of to_score) where
    abbrev to_refine : refinement.Request
    to_refine = refinement.request l q.side q.hues xs ys q.grid d palette noise scratch

    module _ (x : Result ScoreReport Refusal) (r : Refusal) (p : IsErr x × IsErrAnd x (λ y. y ≡ r)) (k t : List Float) where
      pub not-refined : refinement.final (Err r) k t ≡ refinement.refine_of to_refine → left x k d h t bits symbols ≡ read_of s c
      unfolding read_of decided
      not-refined f = rw (← e, ← f) (stops x r p _ _)

    -- refinement is done
    module _ (k t : List Float) (f : refinement.final (Ok tt) k t ≡ refinement.refine_of to_refine) where
      module _ (x : Result ScoreReport Refusal) (r : Refusal) (p : IsErr x × IsErrAnd x (λ y. y ≡ r)) (u : List Float) where
        pub not-unmasked : ended (Err r) u ≡ unmask_luma_of k q.side xs ys q.grid mask → left x u d h t bits symbols ≡ read_of s c
        unfolding read_of decided
        not-unmasked g = rw (← e, ← f, ← g) (stops x r p _ _)

      -- unmasking is done
      module _ (u : List Float) (g : ended (Ok tt) u ≡ unmask_luma_of k q.side xs ys q.grid mask) where
        module _ (x : Result ScoreReport Refusal) (r : Refusal) (p : IsErr x × IsErrAnd x (λ y. y ≡ r)) (b : List ℕ) where
          pub luma-not-read : ended (Err r) b ≡ read_list_of u bits → left x u d h t b symbols ≡ read_of s c
          unfolding read_of decided
          luma-not-read i = rw (← e, ← f, ← g, ← i) (stops x r p _ _)

        -- the luma scores are read
        module _ (b : List ℕ) (i : ended (Ok tt) b ≡ read_list_of u bits) where
          module _ (x : Result ScoreReport Refusal) (r : Refusal) (p : IsErr x × IsErrAnd x (λ y. y ≡ r)) (y : List ℕ) where
            pub chroma-not-read : ended (Err r) y ≡ read_list_of h symbols → left x u d h t b y ≡ read_of s c
            unfolding read_of decided
            chroma-not-read j = rw (← e, ← f, ← g, ← i, ← j) (stops x r p _ _)

          pub all_read : (y : List ℕ) → ended (Ok tt) y ≡ read_list_of h symbols → left (Ok report) u d h t b y ≡ read_of s c
          unfolding read_of decided
          all_read y j = rw (report_is to_score report (ap (λ (a : scoring.Final). a.answer) (sym e)), ← e, ← f, ← g, ← i, ← j) refl
