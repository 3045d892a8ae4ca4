-- `write_scores` meets its contract: the chroma list takes each module's colour from the list that was written, which holds it; the report is the two counts. Assumes nothing.
use mathlib.Core.Path.{◌≡◌, ap, ◌∙◌}
use mathlib.Core.List.{List}
use Prim.Native.Nat.{ℕ, ◌<◌}
use lib.IntN.{ℤ}
use lib.ListN.{length}
use lib.Ieee.{Float}
use Rattle.layout.specs.declared.Layout.{Layout}
use Rattle.color.specs.Palette.{linear_at}
use Rattle.illum.specs.declared.IlluminationModel.{IlluminationModel}
use Rattle.stats.specs.declared.ChannelStats.{ChannelStats}
use Rattle.demod.specs.Ready.{Scorable}
use Rattle.observed.specs.Colours.{held_module_count}
use Rattle.scores.specs.Score.{Sheet, sheet, chroma_written, chroma_held}
use Rattle.demod.specs.declared.ScoreReport.{ScoreReport}
use Rattle.std.specs.Prelude.{Ok}
use Rattle.answers.specs.Answers.{gives}
use Rattle.demod.specs.Call.{Request, request, module_colours, cell_colours, report_of, answering, final, done, written_modules}
use Rattle.scores.proofs.Written.{modules_are}
use Rattle.scores.proofs.Apart.{chroma_same}
use Rattle.demod.proofs.Card.write_scores.Goals as goal

module _ (layout : Layout) (xs ys : List ℤ) (raw : List Float) (cxs cys : List ℕ) (craw palette : List Float) (model : IlluminationModel) (noise : ChannelStats) (luma colours chroma : List Float)
    (s : Scorable layout xs ys raw cxs cys craw palette luma colours chroma) (luma' colours' chroma' : List Float) where
  abbrev q : Request
  q = request layout xs ys raw cxs cys craw palette model noise luma colours chroma

  abbrev report : ℕ → ℕ → ScoreReport
  report a b = record { held_modules = a; held_cells = b }

  reports : (a b : ℕ) → a ≡ held_module_count model xs ys (length xs) → b ≡ chroma_held layout model cxs cys → report a b ≡ report_of q
  unfolding report_of
  reports a b ea eb = rw (ea, eb)

  module _ (h : sheet luma' colours' ≡ written_modules q) where
    colour_is : (j : ℕ) → j < length xs → linear_at colours' j ≡ module_colours q j
    colour_is j i =
        ap (λ (s : Sheet). linear_at s.colours j) h
        ∙ (modules_are noise palette layout.hues (module_colours q) luma colours (length xs) s.luma-long s.colours-three).coloured j i

    wrote : (a b : ℕ) → a ≡ held_module_count model xs ys (length xs) → b ≡ chroma_held layout model cxs cys
        → chroma' ≡ chroma_written layout noise palette (linear_at colours') (length xs) cxs cys (cell_colours q) chroma → final (Ok (report a b)) luma' colours' chroma' ≡ done q
    wrote a b ea eb k =
        ap (λ (z : ScoreReport). answering (gives z) luma' colours' chroma') (reports a b ea eb)
        ∙ ap (λ (s : Sheet). answering (gives (report_of q)) s.luma s.colours chroma') h
        ∙ ap (answering (gives (report_of q)) (written_modules q).luma (written_modules q).colours) (k ∙ chroma_same layout noise palette (linear_at colours') (module_colours q) (length xs) cxs cys (cell_colours q) chroma colour_is)

pub returns : goal.returns
returns c =
    let n = c.new.ensures in
    let t = c.new-meter.ensures in
    let p = c.seen-seen.ensures.modules in
    let k = c.seen-seen.ensures.cells in
    let m = rw (t, n.0, n.1, n.2, p.0, p.1, p.2) at c.write_modules-held_modules.ensures in
    let e = rw (t, n.0, n.1, n.2, k.0, k.1, k.2, k.3) at c.write-held_cells.ensures in
    wrote _ _ _ _ _ _ _ _ _ _ _ _ _ c.requires _ _ _ m.0 _ _ m.1 e.1 e.0
