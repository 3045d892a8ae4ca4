-- Each chroma bit is read as it was drawn: the colour of a cell, or of a ring module that carries chroma, lies near a palette colour of its drawn hue, so that hue leads, its bit scores have the symbol's
-- signs, and the weight and the clamp keep them. Assumes nothing.
use mathlib.Core.Path.{◌≡◌, refl, sym, ap, ◌∙◌, subst}
use mathlib.Core.Bool.{Bool, true, false, cond}
use Prim.Native.Nat.{ℕ, zero, suc, ◌+◌, ◌-◌, ◌*◌, ◌/◌, ◌%◌, ◌≤◌, ◌<◌}
use native.Mathlib.Nat.{one-mul, zero-mul, mul_comm, mod-lt, div-add-mod', div-lt_iff_lt-mul, le_trans, le_of_eq}
use native.Mathlib.Omega.{arith}
use borrow.Author.Tests.{ltb-true, ltb-false, lt-ltb, le-ltb, le-leb}
use lib.Dec.{ltb, eqb}
use lib.ListN.{length, get_or, replicate, length-replicate}
use lib.Ieee.{Float, nan}
use Rattle.limits.specs.Limits.{bad_hues}
use Rattle.limits.specs.Chroma.{chroma_on, symbol_bits, chroma_entries, chroma_length}
use Rattle.limits.proofs.Laws.{hues_in, symbol_bits_on}
use Rattle.color.specs.declared.Linear.{Linear}
use Rattle.color.specs.declared.Lab.{Lab}
use Rattle.color.specs.Color.{whole, linear_to_lab}
use Rattle.color.specs.Palette.{palette_lab}
use Rattle.modulate.specs.declared.Cell.{Cell}
use Rattle.modulate.specs.declared.Cell.TheVariants.{Unmasked, At}
use Rattle.modulate.specs.Draw.{is_set, bit_of, level_at, hue_at}
use Rattle.modulate.specs.Score.{bit_llr}
use Rattle.reading.specs.Read.{reads}
use Rattle.modulate.proofs.ReadBack.{read_cell, read-ring}
use Rattle.margin.specs.declared.Threshold.TheVariants.{Nine}
use Rattle.stats.specs.Noise.{reliability}
use Rattle.margin.proofs.Clear.{Apart}
use Rattle.scores.specs.Score.{weighed, likelihoods, bit_scores, chroma_score}
use Rattle.demod.specs.Call.{module_colours, cell_colours, written_chroma}
use Rattle.scores.proofs.Chroma.{bits_are}
use Rattle.guarantee.specs.Within.{half_sigma}
use Rattle.guarantee.specs.Card.{Setting, Card, modules, chroma_scores, drawn_card, to_score, scored_card, chroma_read, module_lab, cell_lab, palette_colour, carries_chroma}
use Rattle.guarantee.specs.Guarantee.{Singles, Readable, InMarginAt}
use Rattle.guarantee.proofs.Weight.{Weight}
use Rattle.guarantee.proofs.Leads.{read_held}
use Rattle.guarantee.proofs.Scored as lists
use Rattle.guarantee.proofs.Sample.{lab-fits, HueLeads, hue-leads, weight}
use Rattle.guarantee.proofs.Known.{read_at, read-long, level_two, hue-below, drawn-level, drawn-hue, scored-card, scoring_knows, held, palette-fits, in-margin}

module _ (s : Setting) (c : Card) (S : Singles s) (M : InMarginAt Nine s) (R : Readable s c) (on : chroma_on s.layout.hues ≡ true) where
  abbrev hues : ℕ
  hues = s.layout.hues

  good : bad_hues hues ≡ false
  good = (scoring_knows s c R).shaped.hues-good

  some : 0 < hues
  some = (hues_in hues good).least

  room : hues ≤ length (replicate 16 (whole 0))
  room = rw (length-replicate 16 (whole 0)) (hues_in hues good).most

  abbrev entries : ℕ
  entries = chroma_entries (length s.cxs) (modules s - s.layout.grid) s.layout.size

  -- a sample near a palette colour of the hue `own`: that hue leads, and the weight is near 1
  record Led (sample : Lab) (own : ℕ) : Type 0 where
    leads : HueLeads (likelihoods s.noise s.palette hues sample) hues own
    weight : Weight (reliability s.noise sample s.palette hues)

  at_colour : (colour : Linear) (i own : ℕ) → i < 2 * hues → own < hues → Apart s.noise s.palette hues i own → half_sigma s.noise (linear_to_lab colour) (palette_lab s.palette hues i) ≡ true → Led (linear_to_lab colour) own
  at_colour colour i own h l a e =
      let k = scoring_knows s c R in
      record {
        leads = hue-leads s.noise s.palette hues (held s S) (palette-fits s S) k.inputs.palette-tame k.sigmas (in-margin Nine s M) (linear_to_lab colour) (lab-fits colour) i h e own l a (replicate 16 (whole 0)) room;
        weight = weight s.noise s.palette hues (held s S) (palette-fits s S) k.inputs.palette-tame k.sigmas (in-margin Nine s M) (linear_to_lab colour) (lab-fits colour) i h e;
      }

  by_level : (colour : Linear) (level own : ℕ) → level < 2 → own < hues → half_sigma s.noise (linear_to_lab colour) (palette_colour s level own) ≡ true → Led (linear_to_lab colour) own
  unfolding palette_colour
  by_level colour zero own h l e =
      let z : 0 * hues + own ≡ own = rw (zero-mul hues) (omega arith) in
      at_colour colour own own (omega arith) l ((in-margin Nine s M).dark-apart on own l) (rw z at e)
  by_level colour (suc zero) own h l e =
      let z : 1 * hues + own ≡ hues + own = rw (one-mul hues) in
      at_colour colour (hues + own) own (omega arith) l ((in-margin Nine s M).light-apart on own l) (rw z at e)
  by_level colour (suc (suc n)) own h l e = absurd (omega arith)

  abbrev drawn_hue : ℕ → ℕ
  drawn_hue e = hue_at c.bits hues (modules s) s.cxs s.cys e

  drawn-below : (e : ℕ) → drawn_hue e < hues
  drawn-below e = hue-below c.bits hues (modules s) s.cxs s.cys e some

  -- cell e
  cell_led : (e : ℕ) → e < entries → e < length s.cxs → Led (cell_lab s c e) (drawn_hue e)
  cell_led e h l =
      let p = R.near.each-cell on e l in
      by_level (cell_colours (to_score s c) e) p.level (drawn_hue e) p.below (drawn-below e) (rw (drawn-hue s c R on e h) at p.near)

  -- ring module i, which is entry e
  carries : (i : ℕ) → eqb s.layout.size 1 ≡ true → s.layout.grid ≤ i → carries_chroma s i ≡ true
  unfolding carries_chroma
  carries i z g = rw (on, z, le-leb s.layout.grid i g)

  ring_led : (e i : ℕ) → e < entries → eqb s.layout.size 1 ≡ true → s.layout.grid ≤ i → i < modules s → length s.cxs + (i - s.layout.grid) ≡ e → Led (module_lab s c i) (drawn_hue e)
  ring_led e i h z g l q =
      let p = R.near.each_module i l in
      let a : p.hue ≡ drawn_hue e = p.own (carries i z g) ∙ ap (λ (j : ℕ). get_or (drawn_card s c).hues j 0) q ∙ drawn-hue s c R on e h in
      let n = rw (drawn-level s c R i l) at p.near in
      by_level (module_colours (to_score s c) i) (level_at c.bits s.xs s.ys s.layout.grid s.mask i) (drawn_hue e) (level_two c.bits s i) (drawn-below e)
      (subst (λ (j : ℕ). half_sigma s.noise (module_lab s c i) (palette_colour s (level_at c.bits s.xs s.ys s.layout.grid s.mask i) j) ≡ true) a n)

  -- ---- the scores

  abbrev cell_of : ℕ → Cell
  cell_of = lists.cell_of s.layout s.noise s.palette (module_colours (to_score s c)) (modules s) s.cxs s.cys (cell_colours (to_score s c)) c.chroma

  abbrev colour_of : ℕ → Linear
  colour_of = lists.colour_of s.layout s.noise s.palette (module_colours (to_score s c)) (modules s) s.cxs s.cys (cell_colours (to_score s c)) c.chroma

  bit-score : (cell : Cell) (lab : Lab) (b : ℕ) → b < symbol_bits hues → get_or (bit_scores s.noise s.palette hues cell lab) b nan ≡ bit_llr (likelihoods s.noise s.palette hues lab) cell hues b
  bit-score cell lab b h =
      (bits_are (likelihoods s.noise s.palette hues lab) cell hues (replicate 4 (whole 0)) (rw (length-replicate 4 (whole 0)) (hues_in hues good).bits)).done b (rw (symbol_bits_on hues on) at h)

  -- score b of an entry whose hue leads reads as its bit score does
  reads_as : (cell : Cell) (lab : Lab) (own b : ℕ) → b < symbol_bits hues → Led lab own →
      reads (chroma_score (get_or (bit_scores s.noise s.palette hues cell lab) b nan) (reliability s.noise lab s.palette hues)) ≡ reads (bit_llr (likelihoods s.noise s.palette hues lab) cell hues b)
  unfolding chroma_score weighed
  reads_as cell lab own b h p =
      rw (bit-score cell lab b h) (read_held (likelihoods s.noise s.palette hues lab) cell hues b own p.leads.y p.leads.leads p.weight)

  abbrev Bit : ℕ → ℕ → ℕ
  Bit e b = bit_of (is_set (get_or c.bits (modules s + symbol_bits hues * e + b) 0))

  abbrev score_at : ℕ → ℕ → Float
  score_at e b = lists.entry_score s.noise s.palette hues cell_of colour_of c.chroma e b

  at_cell : (e b : ℕ) → b < symbol_bits hues → e < entries → e < length s.cxs → reads (score_at e b) ≡ Bit e b
  at_cell e b h k l =
      let p = cell_led e k l in
      rw (lt-ltb e (length s.cxs) l)
      (reads_as (At (get_or s.cxs e 0) (get_or s.cys e 0)) (cell_lab s c e) (drawn_hue e) b h p ∙
      read_cell c.bits hues (modules s) s.cxs s.cys e b good on h (likelihoods s.noise s.palette hues (cell_lab s c e)) p.leads.y p.leads.leads l)

  at_ring : (e b : ℕ) → b < symbol_bits hues → e < entries → length s.cxs ≤ e → eqb s.layout.size 1 ≡ true → e < length s.cxs + (modules s - s.layout.grid) → reads (score_at e b) ≡ Bit e b
  at_ring e b h k l z r =
      let i = s.layout.grid + (e - length s.cxs) in
      let q : length s.cxs + (i - s.layout.grid) ≡ e = omega arith in
      let p = ring_led e i k z (omega arith) (omega arith) q in
      rw (le-ltb e (length s.cxs) l)
      (reads_as Unmasked (module_lab s c i) (drawn_hue e) b h p ∙
      read-ring c.bits hues (modules s) s.cxs s.cys e b good on h (likelihoods s.noise s.palette hues (module_lab s c i)) p.leads.y p.leads.leads l)

  -- an entry after the cells is a ring module's
  past-cells : (b : Bool) (e n r : ℕ) → n ≤ e → e < n + cond b r 0 → (b ≡ true) × (e < n + r)
  past-cells true e n r l h = (refl, h)
  past-cells false e n r l h = absurd (omega arith)

  entry-bit : (e b : ℕ) → b < symbol_bits hues → e < entries → (t : Bool) → ltb e (length s.cxs) ≡ t → reads (score_at e b) ≡ Bit e b
  unfolding chroma_entries
  entry-bit e b h k true z = at_cell e b h k (ltb-true e (length s.cxs) z)
  entry-bit e b h k false z =
      let l = ltb-false e (length s.cxs) z in
      let p = past-cells (eqb s.layout.size 1) e (length s.cxs) (modules s - s.layout.grid) l k in
      at_ring e b h k l p.0 p.1

  -- ---- the list

  long : entries * symbol_bits hues ≤ length c.chroma
  unfolding chroma_length
  long = le_trans (le_of_eq (mul_comm entries (symbol_bits hues))) (scoring_knows s c R).lengths.chroma-long

  filled : lists.Filled s.noise s.palette hues cell_of colour_of c.chroma entries (written_chroma (to_score s c))
  filled =
      lists.chroma-done s.layout s.noise s.palette (module_colours (to_score s c)) (modules s) s.cxs s.cys (cell_colours (to_score s c)) c.chroma on (scoring_knows s c R).placed.grid-most long

  scored_at : (e b : ℕ) → e < entries → b < symbol_bits hues → get_or (scored_card s c).chroma (e * symbol_bits hues + b) nan ≡ score_at e b
  scored_at e b h k = ap (λ f. get_or f.chroma (e * symbol_bits hues + b) nan) (scored-card s c R).left ∙ filled.done e h b k

  scored-long : entries * symbol_bits hues ≤ length (scored_card s c).chroma
  scored-long = rw (scored-card s c R).left (le_trans long (le_of_eq (sym filled.long)))

  split : (e b k : ℕ) → e * k + b ≡ k * e + b
  split e b k = ap (λ (x : ℕ). x + b) (mul_comm e k)

  score_reads : (e b : ℕ) → e < entries → b < symbol_bits hues →
      reads (get_or (scored_card s c).chroma (e * symbol_bits hues + b) nan) ≡ bit_of (is_set (get_or c.bits (modules s + (e * symbol_bits hues + b)) 0))
  score_reads e b h k =
      let z : modules s + symbol_bits hues * e + b ≡ modules s + (e * symbol_bits hues + b) = omega (arith, split e b (symbol_bits hues)) in
      ap reads (scored_at e b h k) ∙ entry-bit e b k h (ltb e (length s.cxs)) refl ∙ ap (λ (i : ℕ). bit_of (is_set (get_or c.bits i 0))) z

  -- place j of the chroma score list is bit j % log2(hues) of entry j / log2(hues)
  pub chroma-reads : (j : ℕ) → j < chroma_scores s → reads (get_or (scored_card s c).chroma j nan) ≡ bit_of (is_set (get_or c.bits (modules s + j) 0))
  unfolding chroma_length
  chroma-reads j h =
      let k = symbol_bits hues in
      let d : 0 < k = positive k entries h in
      let m = mul_comm entries k in
      let q : j / k < entries = (div-lt_iff_lt-mul d).1 (subst (λ (x : ℕ). j < x) (sym m) h) in
      let e = div-add-mod' j k in
      subst (λ (x : ℕ). reads (get_or (scored_card s c).chroma x nan) ≡ bit_of (is_set (get_or c.bits (modules s + x) 0))) e
      (score_reads (j / k) (j % k) q (mod-lt j d))
    where
      positive : (k n : ℕ) → j < k * n → 0 < k
      positive zero n h = absurd (omega (arith, zero-mul n))
      positive (suc k) n h = omega arith

  pub chroma-bit : (j : ℕ) → j < chroma_scores s → get_or (chroma_read s c).list j 0 ≡ bit_of (is_set (get_or c.bits (modules s + j) 0))
  unfolding chroma_length
  chroma-bit j h =
      read_at (scored_card s c).chroma c.chroma_bits R.accepted.chroma j (omega (arith, mul_comm entries (symbol_bits hues), scored-long)) ∙ chroma-reads j h

  pub chroma-bits : chroma_scores s ≤ length (chroma_read s c).list
  unfolding chroma_length
  chroma-bits =
      le_trans (le_of_eq (mul_comm (symbol_bits hues) entries)) (le_trans scored-long (read-long (scored_card s c).chroma c.chroma_bits R.accepted.chroma))
