-- `promises::scoring_answers` meets its contract: the theorems of `demod`, said of what the call leaves; those of the chroma scores are in `guarantee`. Assumes nothing.
use mathlib.Core.Path.{◌≡◌, refl, sym, ap, ◌∙◌}
use mathlib.Core.Bool.{Bool, true, false}
use Prim.Native.Nat.{ℕ, ◌+◌, ◌-◌, ◌≤◌, ◌<◌}
use native.Mathlib.Nat.{mul_comm, le_trans, le_of_eq}
use native.Mathlib.Omega.{arith}
use borrow.Author.Tests.{lt-ltb, le-ltb, eq-eqb}
use lib.ListN.{length, get_or}
use lib.Ieee.{nan}
use Rattle.limits.specs.Chroma.{chroma_on, symbol_bits, chroma_entries, chroma_length}
use Rattle.answers.specs.Answers.{gives}
use Rattle.color.specs.Palette.{linear_at}
use Rattle.modulate.specs.declared.Cell.TheVariants.{Unmasked, At}
use Rattle.demod.specs.Call.{Request, Final, module_colours, cell_colours, written_chroma, report_of, scored_of}
use Rattle.demod.proofs.Accepted.{number, done-answer}
use Rattle.demod.proofs.Outcome.{at_done, at_refused}
use Rattle.guarantee.proofs.Scored as entries
use Rattle.promises.specs.Scores.{bit_score, place, Scored}
use Rattle.promises.proofs.scoring_answers.Goals as goal

module _ (q : Request) (z : (scored_of q).number ≡ 0) where
  e : (scored_of q).answer ≡ gives (report_of q)
  e = done-answer q z

  -- the chroma list keeps its length, with chroma on or off
  chroma-long : (b : Bool) → chroma_on q.layout.hues ≡ b → length (written_chroma q) ≡ length q.chroma
  chroma-long true o = ((at_done q e).chroma o).long
  chroma-long false o = ap length ((at_done q e).no_chroma o)

  module _ (o : chroma_on q.layout.hues ≡ true) where
    entry : (i b : ℕ) → i < chroma_entries (length q.cxs) (length q.xs - q.layout.grid) q.layout.size → b < symbol_bits q.layout.hues →
        get_or (written_chroma q) (place q i b) nan ≡ bit_score q (entries.cell_of q.layout q.noise q.palette (module_colours q) (length q.xs) q.cxs q.cys (cell_colours q) q.chroma i) (entries.colour_of q.layout q.noise q.palette (module_colours q) (length q.xs) q.cxs q.cys (cell_colours q) q.chroma i) b
    unfolding chroma_length
    entry i b h l =
        let a = (at_done q e).fit in
        (entries.chroma-done q.layout q.noise q.palette (module_colours q) (length q.xs) q.cxs q.cys (cell_colours q) q.chroma o a.placed.grid-most (le_trans (le_of_eq (mul_comm _ (symbol_bits q.layout.hues))) a.lengths.chroma-long)).done i h b l

    cell : (i b : ℕ) → i < length q.cxs → b < symbol_bits q.layout.hues → get_or (written_chroma q) (place q i b) nan ≡ bit_score q (At (get_or q.cxs i 0) (get_or q.cys i 0)) (cell_colours q i) b
    unfolding chroma_entries
    cell i b h l = rw (lt-ltb i (length q.cxs) h) at (entry i b (omega arith) l)

    ring : q.layout.size ≡ 1 → (i b : ℕ) → q.layout.grid ≤ i → i < length q.xs → b < symbol_bits q.layout.hues →
        get_or (written_chroma q) (place q (length q.cxs + (i - q.layout.grid)) b) nan ≡ bit_score q Unmasked (module_colours q i) b
    unfolding chroma_entries
    ring z i b g h l =
        let c = length q.cxs in
        let j = c + (i - q.layout.grid) in
        let back : q.layout.grid + (j - c) ≡ i = omega arith in
        let past : c ≤ j = omega arith in
        rw (le-ltb j c past, back) at (entry j b (rw (eq-eqb q.layout.size 1 z) (omega arith)) l)

  scored : Scored q
  scored =
      let d = at_done q e in
      record {
        no_sentence = sym (number q) ∙ z;
        reports = e;
        luma-long = ap (λ (f : Final). length f.luma) d.left ∙ d.wrote.luma-long;
        luma = λ i l. ap (λ (f : Final). get_or f.luma i nan) d.left ∙ d.wrote.scored i l;
        luma-kept = λ i l. ap (λ (f : Final). get_or f.luma i nan) d.left ∙ d.wrote.luma-kept i l;
        colours-long = ap (λ (f : Final). length f.colours) d.left ∙ d.wrote.colours-long;
        colours = λ i l. ap (λ (f : Final). linear_at f.colours i) d.left ∙ d.wrote.coloured i l;
        colours-kept = λ i l. ap (λ (f : Final). get_or f.colours i nan) d.left ∙ d.wrote.colours-kept i l;
        chroma-long = ap (λ (f : Final). length f.chroma) d.left ∙ chroma-long (chroma_on q.layout.hues) refl;
        cell = λ o i b h l. ap (λ (f : Final). get_or f.chroma (place q i b) nan) d.left ∙ cell o i b h l;
        ring = λ o z i b g h l. ap (λ (f : Final). get_or f.chroma (place q (length q.cxs + (i - q.layout.grid)) b) nan) d.left ∙ ring o z i b g h l;
        chroma-kept = λ o j h. ap (λ (f : Final). get_or f.chroma j nan) d.left ∙ (d.chroma o).kept j h;
        chroma-off = λ o. ap (λ (f : Final). f.chroma) d.left ∙ d.no_chroma o;
      }

pub returns : goal.returns
returns c =
    record {
      done = scored;
      refused = λ q n z e. let p = at_refused q n z e in record { left = p.left; holds = p.holds; earlier = p.earlier };
    }
