-- `modulate::draw` meets its contract: refused by the first sentence that holds, or drawn. Assumes nothing.
use mathlib.Core.Path.{◌≡◌}
use mathlib.Core.List.{List}
use Prim.Native.Nat.{ℕ}
use Rattle.sentences.specs.Sentences.{refusal}
use Rattle.std.specs.Prelude.{Ok}
use Rattle.modulate.specs.Draw.{Card, drawn, levels_of, hues_of, draw_sentences, draw_of}
use Rattle.modulate.proofs.Accepted.{not-drawn, is-drawn, accepted}
use Rattle.modulate.proofs.draw.Goals as goal

wrote : (q : Card) (levels hues : List ℕ) → 0 ≡ refusal (draw_sentences q) → levels ≡ levels_of q → hues ≡ hues_of q → drawn (Ok tt) levels hues ≡ draw_of q
wrote q levels hues e el eh = rw (el, eh) (is-drawn q e)

pub returns-in_err-check : goal.returns-in_err-check
returns-in_err-check c = search (not-drawn, c.in_err-check.ensures)

pub draw_levels-requires : goal.draw_levels-requires
draw_levels-requires c =
    let a = accepted _ c.in_ok-check.ensures in
    (record { side-most = a.shaped.side-most; pairs = a.lengths.pairs.modules; places-good = a.placed.places-good }, a.modules_bits, a.lengths.levels_in)

pub draw_hues-requires : goal.draw_hues-requires
draw_hues-requires c =
    let a = accepted _ c.in_ok-check.ensures in
    (a.shaped, a.placed.modules-most, a.placed.cells-most, a.lengths.pairs.cells, a.lengths.bits_in, a.lengths.hues_in)

pub returns : goal.returns
returns c = search (wrote, c.in_ok-check.ensures)
