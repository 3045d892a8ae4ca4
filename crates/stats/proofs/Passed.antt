-- What an accepted call of the noise record knows: each sentence, where it does not hold. Assumes nothing.
use mathlib.Core.Path.{◌≡◌, refl}
use mathlib.Core.Bool.{false}
use mathlib.Core.List.{List}
use Prim.Native.Nat.{ℕ, ◌+◌, ◌*◌, ◌≤◌}
use native.Mathlib.Omega.{arith}
use borrow.Author.Tests.{ltb-false}
use lib.Dec.{ltb}
use lib.ListN.{length}
use lib.Ieee.{Float}
use Rattle.sentences.specs.Sentences.{refusal, at, sound, fresh}
use Rattle.sentences.proofs.Laws.{none-holds, neither}
use Rattle.color.specs.Palette.{palette_len}
use Rattle.stats.specs.declared.ChannelStats.{ChannelStats}
use Rattle.stats.specs.Calls.{short_palette, short_likelihoods, palette_sentences, sentences_of, likelihood_sentences}

-- 5
pub palette-long : (palette : List Float) (hues : ℕ) → short_palette palette hues ≡ false → palette_len hues ≤ length palette
unfolding short_palette
palette-long palette hues h = ltb-false (length palette) (2 + 8 * hues) h

pub likelihoods-long : (palette : List Float) (hues : ℕ) (out : List Float) → short_likelihoods palette hues out ≡ false → (palette_len hues ≤ length palette) × (hues ≤ length out)
unfolding short_likelihoods
likelihoods-long palette hues out h =
    let p = neither (short_palette palette hues) (ltb (length out) hues) h in
    (palette-long palette hues p.0, ltb-false (length out) hues p.1)

-- past its sentences a call's palette, and the room that it is lent, are long enough
module _ (palette : List Float) (hues : ℕ) where
  pub past-palette : 0 ≡ refusal (palette_sentences palette hues) → palette_len hues ≤ length palette
  unfolding palette_sentences at sound fresh
  past-palette e = palette-long palette hues (none-holds (palette_sentences palette hues) refl 5 e)

  pub past-levels : 0 ≡ refusal (palette_sentences palette hues) → 2 ≤ length palette
  past-levels e = omega (arith, past-palette e)

  module _ (s : ChannelStats) where
    pub past : 0 ≡ refusal (sentences_of s palette hues) → palette_len hues ≤ length palette
    unfolding sentences_of at sound fresh
    past e = palette-long palette hues (none-holds (sentences_of s palette hues) refl 5 e)

    module _ (out : List Float) (e : 0 ≡ refusal (likelihood_sentences s palette hues out)) where
      lengths : (palette_len hues ≤ length palette) × (hues ≤ length out)
      unfolding likelihood_sentences at sound fresh
      lengths = likelihoods-long palette hues out (none-holds (likelihood_sentences s palette hues out) refl 5 e)

      pub past-likelihoods : palette_len hues ≤ length palette
      past-likelihoods = lengths.0

      pub past_room : hues ≤ length out
      past_room = lengths.1
