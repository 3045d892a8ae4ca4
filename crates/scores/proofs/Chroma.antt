-- The likelihoods and the bit scores of one chroma entry, element by element: each turn writes one place and keeps the others, so the lengths stay and each place holds its own. Assumes nothing.
use mathlib.Core.Path.{◌≡◌, sym, ap, ◌∙◌}
use mathlib.Core.Bool.{false}
use mathlib.Core.List.{List}
use Prim.Native.Nat.{ℕ, ◌+◌, ◌*◌, ◌≤◌, ◌<◌}
use native.Mathlib.Omega.{arith}
use native.Mathlib.Nat.{le_trans, le_of_eq, suc-mul, mul-le-mul_right}
use borrow.Author.Tests.{lt-ltb, le-ltb}
use lib.ListN.{length, get_or, replicate}
use lib.Ieee.{Float, nan, binary32, of_bits}
use Rattle.limits.specs.Limits.{bad_hues}
use Rattle.limits.specs.Chroma.{log2, symbol_bits}
use Rattle.limits.proofs.Laws.{hues_in, symbol_bits_few}
use Rattle.color.specs.declared.Lab.{Lab}
use Rattle.modulate.specs.declared.Cell.{Cell}
use Rattle.modulate.specs.declared.Cell.TheVariants.{Unmasked, At}
use Rattle.modulate.specs.Score.{bit_llr_at, chroma_bit_llrs}
use Rattle.lists.proofs.Laws.{Reached, reached}
use Rattle.stats.specs.declared.ChannelStats.{ChannelStats}
use Rattle.stats.specs.Noise.{denominator, hue_log_likelihood, put_likelihood, hue_log_likelihoods, palette_sigmas, Sigmas}
use Rattle.stats.proofs.Given.{are_sigmas}
use Rattle.scores.specs.Score.{put_scores, write_sample, drawn_at}
use Rattle.color.proofs.Numbers.{n0}

-- each hue's likelihood, and the tail as it was
pub likelihoods_are : (n : ChannelStats) (lab : Lab) (palette : List Float) (hues : ℕ) (out : List Float) → hues ≤ length out →
    Reached nan (λ h v. hue_log_likelihood lab (denominator n lab) palette h) out hues (hue_log_likelihoods n lab palette hues out)
unfolding put_likelihood
likelihoods_are n lab palette hues out h = reached nan (λ h v. hue_log_likelihood lab (denominator n lab) palette h) out hues h

-- each bit's score
pub bits_are : (ll : List Float) (cell : Cell) (hues : ℕ) (out : List Float) → log2 hues ≤ length out → Reached nan (bit_llr_at ll cell hues) out (log2 hues) (chroma_bit_llrs ll cell hues out)
bits_are ll cell hues out h = reached nan (bit_llr_at ll cell hues) out (log2 hues) h

module _ (hues : ℕ) (g : bad_hues hues ≡ false) where
  pub few : hues ≤ 16
  few = (hues_in hues g).most

  pub few_colours : 2 * hues ≤ 32
  few_colours = omega (arith, few)

  pub short : log2 hues ≤ 4
  short = (hues_in hues g).bits

  pub room : (n : ChannelStats) (lab : Lab) (palette ll : List Float) → ll ≡ hue_log_likelihoods n lab palette hues (replicate 16 (of_bits binary32 0)) → hues ≤ length ll
  room n lab palette ll e = le_trans few (le_of_eq (sym (ap length e ∙ (likelihoods_are n lab palette hues (replicate 16 (of_bits binary32 0)) few).long)))

  pub bits_room : (k : ℕ) (ll bits : List Float) (cell : Cell) → bits ≡ chroma_bit_llrs ll cell hues (replicate 4 (of_bits binary32 0)) → k ≡ symbol_bits hues → k ≤ length bits
  bits_room k ll bits cell e h =
      le_trans (le_trans (le_of_eq h) (symbol_bits_few hues g)) (le_of_eq (sym (ap length e ∙ (bits_are ll cell hues (replicate 4 (of_bits binary32 0)) short).long)))

-- the noises of the palette's colours, in room for 32
pub sigmas_written : (n : ChannelStats) (palette : List Float) (hues : ℕ) (x : Float) (sigmas : List Float) → sigmas ≡ palette_sigmas n palette hues (replicate 32 x) → bad_hues hues ≡ false → Sigmas n palette hues sigmas
sigmas_written n palette hues x sigmas e g = are_sigmas n palette hues (replicate 32 x) (few_colours hues g) sigmas e

-- where an entry is drawn
module _ (cxs cys : List ℕ) (e : ℕ) where
  pub on_cell : e < length cxs → At (get_or cxs e 0) (get_or cys e 0) ≡ drawn_at cxs cys e
  unfolding drawn_at
  on_cell h = rw (lt-ltb e (length cxs) h)

  pub on_ring : length cxs ≤ e → Unmasked ≡ drawn_at cxs cys e
  unfolding drawn_at
  on_ring h = rw (le-ltb e (length cxs) h)

-- the places of one entry
module _ (hues e k long : ℕ) (h : k ≡ symbol_bits hues) (l : e * symbol_bits hues + symbol_bits hues ≤ long) where
  pub entry_in : e * k + k ≤ long
  entry_in = rw h l

-- one entry, from what the code has at hand
pub entry : (n : ChannelStats) (palette : List Float) (hues : ℕ) (cell : Cell) (lab sample : Lab) (weight : Float) (e : ℕ) (chroma ll bits : List Float) (k : ℕ) (after : List Float) →
    after ≡ put_scores bits weight k (e * k) chroma → bits ≡ chroma_bit_llrs ll cell hues (replicate 4 (of_bits binary32 0)) → ll ≡ hue_log_likelihoods n lab palette hues (replicate 16 (of_bits binary32 0)) →
    lab ≡ sample → k ≡ symbol_bits hues → after ≡ write_sample n palette hues cell sample weight e chroma
entry n palette hues cell lab sample weight e chroma ll bits k after h eb ell el ek = rw (← n0, ← ek, ← el, ← ell, ← eb) h

-- ---- the entries' places in the list

module _ (hues i n long : ℕ) where
  -- entry i is one of n
  pub entry_of : i < n → n * symbol_bits hues ≤ long → i * symbol_bits hues + symbol_bits hues ≤ long
  entry_of h l = le_trans (le_of_eq (sym (suc-mul i (symbol_bits hues)))) (le_trans (mul-le-mul_right (symbol_bits hues) h) l)

-- the scores of the entries below `to` have room where those of all n have
pub part-long : (hues to n long lent : ℕ) → n * symbol_bits hues ≤ lent → to ≤ n → long ≡ lent → to * symbol_bits hues ≤ long
part-long hues to n long lent l h e = rw e (le_trans (mul-le-mul_right (symbol_bits hues) h) l)
